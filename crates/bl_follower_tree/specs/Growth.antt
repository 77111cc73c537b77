-- Internal. A tree that grows, how it grows, and what is kept.
use Rattle.std.specs.Prelude.{◌≡◌, ◌+◌, ◌*◌, ◌≤◌, ◌≤ℤ◌, ◌++◌, ℕ, ℤ, List, [], ◌∷◌, length, All, Option, Some, None}
use Rattle.std.specs.Prelude.{Bool, true, false}
use Rattle.bl_terms.specs.Points.{Area}
use Rattle.bl_terms.specs.Bounds.{Problem, Multipliers}
use Rattle.bl_terms.specs.Trees.{point_count}
use Rattle.bl_licence.specs.declared.why.Why.{Why}
use Rattle.bl_fproof.specs.declared.answered.Step.{Step}
use Rattle.bl_fproof.specs.declared.answered.Step.TheVariants as step
use Rattle.bl_fproof.specs.Steps.{nodes_of}
use Rattle.bl_follower_tree.specs.declared.licensed.LicensedNode.{LicensedNode}
use Rattle.bl_follower_tree.specs.declared.licensed.LicensedNode.TheVariants as node
use Rattle.bl_follower_tree.specs.Licences.{Licenses, IsFinished, HasLeft}
use Rattle.bl_follower_tree.specs.Shapes.{HaveSameSplits}
use Rattle.bl_follower_tree.specs.Openings.{Opens, AreParts, points_of}

-- the nodes so far and their cutoffs, the steps of the proof so far, the boxes still to be worked on with the first
-- one last, and whether a leaf was left open
pub record Grown : Type 0 where
  pub nodes : List LicensedNode
  pub cutoffs : List (Option ℤ)
  pub steps : List Step
  pub stack : List Area
  pub left : Bool

abbrev pub beginning : Area → Grown
beginning a = record { nodes = []; cutoffs = []; steps = []; stack = a ∷ []; left = false }

-- the next box is taken out
abbrev pub IsNext : Grown → Grown → Option Area → Type 0
IsNext old new None = (new ≡ old) × (old.stack ≡ [])
IsNext old new (Some a) = old ≡ record new { stack = new.stack ++ a ∷ [] }

-- the box at hand is closed by w, split into these halves, or left open
abbrev pub shut_by : Grown → Multipliers → Grown
shut_by g w = record g { nodes = g.nodes ++ node.Shut ∷ []; steps = g.steps ++ step.Shut w ∷ [] }

abbrev pub split_by : Grown → ℕ → ℤ → Area × Area → Option ℤ → Why → Grown
split_by g j v halves u why = record g {
  nodes = g.nodes ++ node.Split j v why ∷ [];
  cutoffs = g.cutoffs ++ u ∷ [];
  steps = g.steps ++ step.Split j v ∷ [];
  stack = (g.stack ++ halves.1 ∷ []) ++ halves.0 ∷ [];
}

abbrev pub left_by : Grown → Option ℤ → Why → Grown
left_by g u why = record g {
  nodes = g.nodes ++ node.Left (Some why) ∷ [];
  cutoffs = g.cutoffs ++ u ∷ [];
  left = true;
}

-- the second cutoff asks for no more than the first
abbrev pub IsLowered : Option ℤ → Option ℤ → Type 0
IsLowered None v = Unit {0}
IsLowered (Some x) None = ⊥
IsLowered (Some x) (Some y) = y ≤ℤ x

-- the steps so far close what they can for the cutoff u, with the splits of the nodes, and no leaf is open
pub record IsShownSoFar (q : Problem) (u : Option ℤ) (g : Grown) (boxes : List Area) : Type 0 where
  pub opens : Opens q u (nodes_of g.steps) (q.area ∷ []) boxes
  pub same : HaveSameSplits g.nodes g.steps
  pub finished : All IsFinished g.nodes

-- the tree has its licences, its proof or an open leaf, and these boxes still to be worked on; a split of each of
-- them down to its points leads to fewer nodes than twice the points of the whole box
pub record IsGrown (q : Problem) (u : Option ℤ) (g : Grown) (boxes : List Area) : Type 0 where
  pub parts : AreParts q boxes
  pub licensed : Licenses q g.nodes g.cutoffs (q.area ∷ []) boxes
  pub shown : g.left ≡ false → IsShownSoFar q u g boxes
  pub left : g.left ≡ true → HasLeft g.nodes
  pub room : length g.nodes + 2 * points_of boxes + 1 ≤ 2 * point_count q.area + length boxes
