-- Trusted. What it means that a box is closed, and what shows it: a bound over rows that are valid on the box, or that
-- the follower has no answer there.
use Rattle.std.specs.Prelude.{◌≡◌, ◌≢◌, ◌≤◌, ◌≤ℤ◌, ◌++◌, ℤ, pos, List, [], ◌∷◌, length, map, Option, Some, None}
use Rattle.std.specs.Prelude.{MatchOption, All, AllPairs}
use Rattle.bl_whole.specs.Sums.{component}
use Rattle.bl_limits.specs.declared.TheConstants.{MAX_CUTS}
use Rattle.bl_terms.specs.Points.{Area, IsArea, InArea, IsWithinArea, Fixes, Linear, row_of_zeros}
use Rattle.bl_terms.specs.Programs.{Program, columns, inequality, root, cost_at}
use Rattle.bl_terms.specs.Responses.{NoResponse}
use Rattle.bl_terms.specs.Feasible.{BilevelFeasible}
use Rattle.bl_terms.specs.Bounds.{Problem, Multipliers, Proves, IsProblem}
use Rattle.bl_model.specs.View.{IsModel}
use Rattle.bl_fproof.specs.Entries.{Admitted}
use Rattle.bl_fproof.specs.Steps.{entry_of}
use Rattle.bl_cut_terms.specs.ValidRows.{IsValidRow}
use Rattle.bl_cut_terms.specs.NoGoods.{NoGoodCut, AreCutSteps, cut_of}
use Rattle.bl_cut_terms.specs.Adopting.{StandsAlone}
use Rattle.bl_leaf_terms.specs.Incumbents.{Incumbent, IsEntryFor, AreIncumbents, cutoff_of}
use Rattle.bl_leaf_terms.specs.Nodes.{value_row, fixed_link, HasValue}

-- a cost isn't below the cutoff; without a cutoff there is no such cost
abbrev pub IsAtLeast : Option ℤ → ℤ → Type 0
IsAtLeast None v = ⊥
IsAtLeast (Some u) v = u ≤ℤ v

-- the box is closed: no bilevel feasible point of it costs less than the cutoff, and without a cutoff there is none
abbrev pub IsClosed : Program → Area → Option ℤ → Type 0
IsClosed p a u = (z : List ℤ) → BilevelFeasible p z → InArea a z → IsAtLeast u (cost_at p z)

-- ---- what shows it

-- the place of the value row: a row that asks nothing where there is no value
abbrev pub value_place : Program → Option ℤ → Linear
value_place p None = row_of_zeros (columns p)
value_place p (Some v) = value_row p v

-- the problem of a leaf: the rows of the program, the place of the value row, and the rows of cuts
abbrev pub leaf_problem : Program → Area → Option ℤ → List Linear → Problem
leaf_problem p a value cuts =
    record { rows = map inequality p.rows ++ value_place p value ∷ cuts; cost = p.cost; area = a }

-- multipliers with cuts and perhaps an entry whose value is used, or an entry without a response
pub data Evidence : Type 0 where
  Bounded : Multipliers → List NoGoodCut → Option Admitted → Evidence
  NoAnswer : Admitted → Evidence

-- the cut is a shown one of the program, whose steps can be taken over alone, and its box contains this one
pub record IsCutFor (p : Program) (a : Area) (c : NoGoodCut) : Type 0 where
  pub program : c.program ≡ p
  pub steps : AreCutSteps p [] c.steps
  pub some : c.steps ≢ []
  pub alone : StandsAlone c
  pub within : IsWithinArea a (cut_of c).area

-- no two of the cuts have the same box and row
abbrev pub AreDistinctCuts : List NoGoodCut → Type 0
AreDistinctCuts cuts = AllPairs (λ c d. cut_of c ≢ cut_of d) cuts

-- without an entry there is no value, and the place of the value row has the multiplier 0
abbrev pub HasValueFor : Program → Area → Multipliers → Option Admitted → Option ℤ → Type 0
HasValueFor p a w None value = (value ≡ None) × (component w.mult (length p.rows) ≡ pos 0)
HasValueFor p a w (Some e) value = MatchOption value ⊥ (HasValue p a e)

-- the multipliers prove the cutoff over the box, with few cuts, no two of which have the same box and row
pub record IsBounded (p : Program) (a : Area) (u : Option ℤ) (w : Multipliers) (cuts : List NoGoodCut)
    (entry : Option Admitted) : Type 0 where
  pub few : length cuts ≤ MAX_CUTS
  pub distinct : AreDistinctCuts cuts
  pub valid : All (IsCutFor p a) cuts
  pub value : Option ℤ
  pub has : HasValueFor p a w entry value
  pub proof : Proves (leaf_problem p a value (map (λ c. (cut_of c).row) cuts)) u w

-- the box fixes the linking columns, and their link has no response
pub record HasNoAnswer (p : Program) (a : Area) (e : Admitted) : Type 0 where
  pub fixes : Fixes a p.links
  pub entry : IsEntryFor p (fixed_link p a) e
  pub none : entry_of e.answered ≡ NoResponse

abbrev pub IsShownClosed : Program → Area → Option ℤ → Evidence → Type 0
IsShownClosed p a u (Bounded w cuts entry) = IsBounded p a u w cuts entry
IsShownClosed p a u (NoAnswer e) = HasNoAnswer p a e

-- a closed leaf: a box of a program, the incumbent that set the cutoff, and what shows it
pub record ClosedLeaf : Type 0 where
  pub program : Program
  pub area : Area
  pub cutoff : Option Incumbent
  pub evidence : Evidence

pub record IsClosedLeaf (leaf : ClosedLeaf) : Type 0 where
  pub model : IsModel leaf.program
  pub area : IsArea leaf.area
  pub within : IsWithinArea leaf.area (root leaf.program)
  pub incumbent : AreIncumbents leaf.program leaf.cutoff
  pub shown : IsShownClosed leaf.program leaf.area (cutoff_of leaf.cutoff) leaf.evidence

-- THE LAWS

-- a bound over rows that are valid on the box closes it, whatever shows that they are valid
abbrev pub BoundedLaw : Type 0
BoundedLaw =
    (p : Program) (a : Area) (u : Option ℤ) (w : Multipliers) (rows : List Linear) → IsModel p → IsArea a
    → IsWithinArea a (root p) → All (IsValidRow p a) rows
    → IsProblem (record { rows = rows; cost = p.cost; area = a })
    → Proves (record { rows = rows; cost = p.cost; area = a }) u w → IsClosed p a u

-- what shows a leaf closes its box
abbrev pub LeafLaw : Type 0
LeafLaw = (leaf : ClosedLeaf) → IsClosedLeaf leaf → IsClosed leaf.program leaf.area (cutoff_of leaf.cutoff)
