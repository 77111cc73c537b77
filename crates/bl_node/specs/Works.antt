-- Trusted. What the work at a node answers.
use Rattle.std.specs.Prelude.{◌≡◌, ◌+◌, ◌*◌, ◌<◌, ◌≤ℤ◌, ℕ, ℤ, List, length, slice_index, Option, option_map}
use Rattle.std.specs.Arc.{arc_value}
use Rattle.bl_whole.specs.Sums.{component}
use Rattle.bl_terms.specs.Points.{Area}
use Rattle.bl_terms.specs.Programs.{Program, root}
use Rattle.bl_terms.specs.Points.{IsArea, IsWithinArea}
use Rattle.bl_model.specs.View.{IsModel}
use Rattle.bl_terms.specs.Trees.{point_count}
use Rattle.bl_terms.specs.FollowerProofs.{follower_box}
use Rattle.bl_follower.specs.declared.solve.FollowerFail.{FollowerFail}
use Rattle.bl_follower.specs.declared.solve.FollowerFail.TheVariants as spent
use Rattle.bl_follower.specs.Exhausted.{Exhausted}
use Rattle.bl_cut_terms.specs.NoGoods.{NoGoodCut}
use Rattle.bl_model.specs.Boxes.{Halved}
use Rattle.bl_leaf_terms.specs.Incumbents.{Incumbent, AreIncumbents, cutoff_of}
use Rattle.bl_leaf_terms.specs.Nodes.{NodeLicence}
use Rattle.bl_leaf_terms.specs.Leaves.{ClosedLeaf}
use Rattle.bl_book_terms.specs.Books.{IsCurrent}
use Rattle.bl_node.specs.NodeCuts.{AreMade, with_cuts, IsTried}
use Rattle.bl_tree.specs.declared.task.Task.{Task}
use Rattle.bl_node.specs.declared.nodes.Worked.{Worked}
use Rattle.bl_node.specs.declared.nodes.Worked.TheVariants.{Close, Divide}
use Rattle.bl_node.specs.declared.nodes.WorkFail.{WorkFail}
use Rattle.bl_node.specs.declared.nodes.WorkFail.TheVariants.{FollowerSpent, Memory}

-- a task as values: the node's number and box, the best incumbent and the cuts that the node inherits
pub record Job : Type 0 where
  pub node : ℕ
  pub program : Program
  pub area : Area
  pub best : Option Incumbent
  pub cuts : List NoGoodCut

abbrev pub job_of : Task → Job
job_of t = record {
  node = t.node;
  program = arc_value t.model;
  area = arc_value t.area;
  best = option_map arc_value t.best;
  cuts = t.cuts;
}

-- the box lies in the program's, and the best is an incumbent of the program
pub record IsJob (j : Job) : Type 0 where
  pub within : IsWithinArea j.area (root j.program)
  pub best : AreIncumbents j.program j.best

-- ... and the program is a model, and the box a box
pub record IsSoundJob (j : Job) : Type 0 where
  pub job : IsJob j
  pub model : IsModel j.program
  pub area : IsArea j.area

-- the leaf is of the job's box
pub record IsClosing (j : Job) (leaf : ClosedLeaf) : Type 0 where
  pub program : leaf.program ≡ j.program
  pub area : leaf.area ≡ j.area

-- the halves and the licence are of the job's box; the licence's cutoff is at most the job's best value, and isn't none
-- where the job has one; the halves inherit the job's cuts and those that were made
pub record IsDividing (j : Job) (h : Halved) (licence : NodeLicence) (inherited : List NoGoodCut) : Type 0 where
  pub halves : h.area ≡ j.area
  pub program : licence.program ≡ j.program
  pub area : licence.area ≡ j.area
  pub current : IsCurrent (cutoff_of j.best) (cutoff_of licence.cutoff)
  pub made : List NoGoodCut
  pub are_made : AreMade j.program j.area j.node made
  pub cuts : inherited ≡ with_cuts j.cuts made
  pub tried : IsTried j.program j.area j.node j.cuts made licence.why

-- the link's values lie in the ranges of the box
pub record IsLinkOfBox (p : Program) (a : Area) (l : List ℤ) : Type 0 where
  pub least : (i : ℕ) → i < length p.links → component a.lo (slice_index p.links i) ≤ℤ component l i
  pub most : (i : ℕ) → i < length p.links → component l i ≤ℤ component a.hi (slice_index p.links i)

-- the follower's nodes were spent at a link of the job's box; they are fewer than twice the points of his box less one
pub record IsSpentIn (j : Job) (most : ℕ) (s : Exhausted) : Type 0 where
  pub program : s.program ≡ j.program
  pub budget : s.budget ≡ most
  pub link : IsLinkOfBox j.program j.area s.link
  pub small : most + 1 < 2 * point_count (follower_box j.program)

-- how the follower's solver fails is how the work fails
abbrev pub fails_as : FollowerFail → WorkFail
fails_as (spent.Spent s) = FollowerSpent s
fails_as spent.Memory = Memory

-- what the work at a node answers: a leaf or a division, and beside it what was found
abbrev pub IsWorked : Job → Worked → Type 0
IsWorked j (Close leaf found) = IsClosing j leaf × AreIncumbents j.program (option_map arc_value found)
IsWorked j (Divide halves why cuts found) =
    IsDividing j halves why cuts × AreIncumbents j.program (option_map arc_value found)

abbrev pub IsWorkFailure : Job → ℕ → WorkFail → Type 0
IsWorkFailure j budget (FollowerSpent s) = IsSpentIn j budget s
IsWorkFailure j budget Memory = Unit {0}
