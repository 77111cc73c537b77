-- Internal. What the work at a node has found so far.
use Rattle.std.specs.Prelude.{◌≡◌, ◌<◌, ◌≤ℤ◌, ◌+ℤ◌, ◌^◌, ℕ, suc, ℤ, pos, List, Option, Some, None, MatchOption}
use Rattle.std.specs.Prelude.{unsigned_abs, length, Bool, IsTrue}
use Rattle.bl_whole.specs.Within.{IsWithin}
use Rattle.bl_terms.specs.Points.{IsOnePoint, InArea}
use Rattle.bl_terms.specs.Programs.{cost_at, MeetsRows}
use Rattle.bl_terms.specs.Bounds.{Proves}
use Rattle.bl_bound.specs.Plain.{CostsLess}
use Rattle.bl_licence.specs.Why.{IsLicence}
use Rattle.bl_leaf_terms.specs.Incumbents.{Incumbent, AreIncumbents, cost_of, cutoff_of}
use Rattle.bl_leaf_terms.specs.Nodes.{plain_problem, IsBettered, IsFreeLicence}
use Rattle.bl_cut_terms.specs.NoGoods.{NoGoodCut}
use Rattle.bl_limits.specs.declared.TheConstants.{CUT_NODES}
use Rattle.bl_node.specs.NodeCuts.{AreMade, with_cuts, HasTried, BreaksOne}
use Rattle.bl_node.specs.Works.{Job}
use Rattle.bl_node.specs.declared.relaxation.Relaxation.{Relaxation}
use Rattle.bl_node.specs.declared.relaxation.Relaxation.TheVariants.{Closed, Stuck}

-- the incumbent that sets the cutoff: the one that was found here, else the job's best
abbrev pub best_of : Option Incumbent → Option Incumbent → Option Incumbent
best_of (Some f) best = Some f
best_of None best = best

-- the cutoff while so much is found
abbrev pub cutoff_with : Job → Option Incumbent → Option ℤ
cutoff_with j found = cutoff_of (best_of found j.best)

-- what is found is an incumbent of the job's program and costs less than its best
pub record IsFound (j : Job) (found : Option Incumbent) : Type 0 where
  pub incumbent : AreIncumbents j.program found
  pub better : MatchOption found (Unit {0}) (λ f. CostsLess (cutoff_of j.best) (cost_of f))

-- something found later doesn't raise the cutoff
abbrev pub IsNoHigher : Option ℤ → Option ℤ → Type 0
IsNoHigher None u = Unit {0}
IsNoHigher (Some v) None = ⊥
IsNoHigher (Some v) (Some u) = u ≤ℤ v

pub record IsFoundAfter (j : Job) (old new : Option Incumbent) : Type 0 where
  pub found : IsFound j new
  pub lower : IsNoHigher (cutoff_with j old) (cutoff_with j new)

-- a whole point that is judged costs no less than the cutoff that it leaves, or the response betters it
abbrev pub IsJudged : Job → Option Incumbent → List ℤ → Option (List ℤ) → Type 0
IsJudged j found z None = ¬ CostsLess (cutoff_with j found) (cost_at j.program z)
IsJudged j found z (Some y) = IsBettered j.program j.area (cutoff_with j found) z y

-- a relaxation of the plain problem with this value: a proof, or a licence and several points
abbrev pub IsRelaxedWith : Job → Option ℤ → Option Incumbent → Relaxation → Type 0
IsRelaxedWith j value found (Closed w) = Proves (plain_problem j.program j.area value) (cutoff_with j found) w
IsRelaxedWith j value found (Stuck why) =
    IsLicence (plain_problem j.program j.area value) (cutoff_with j found) why × ¬ IsOnePoint j.area

-- ... and where a linking column is free, the licence may be a better response
abbrev pub IsRelaxedFree : Job → Option Incumbent → Relaxation → Type 0
IsRelaxedFree j found (Closed w) = Proves (plain_problem j.program j.area None) (cutoff_with j found) w
IsRelaxedFree j found (Stuck why) = IsFreeLicence j.program j.area (cutoff_with j found) why

-- the cuts at a node: those that were made there, and all that its halves will inherit
pub record AreNodeCuts (j : Job) (all made : List NoGoodCut) : Type 0 where
  pub are_made : AreMade j.program j.area j.node made
  pub all_are : all ≡ with_cuts j.cuts made

-- a cut was tried at z, where that is asked for
abbrev pub IsTriedAt : Job → List NoGoodCut → List ℤ → Type 0
IsTriedAt j made z = j.node < CUT_NODES → HasTried j.program j.area j.cuts made z

-- what breaks a cut still does
abbrev pub StayBroken : Job → List NoGoodCut → List NoGoodCut → Type 0
StayBroken j old new = (z : List ℤ) → BreaksOne j.program j.area old z → BreaksOne j.program j.area new z

-- an attempt at a cut at z: one is made, and z breaks it; or it was tried
pub record IsAttempt (j : Job) (old new : List NoGoodCut) (z : List ℤ) (is_made : Bool) : Type 0 where
  pub stay : StayBroken j old new
  pub tried : IsTriedAt j new z
  pub more : IsTrue is_made → (length new ≡ suc (length old)) × BreaksOne j.program j.area new z

-- a point of the box that meets the rows and costs less than the cutoff
pub record IsBelow (j : Job) (found : Option Incumbent) (z : List ℤ) : Type 0 where
  pub inside : InArea j.area z
  pub rows : MeetsRows j.program z
  pub cost : CostsLess (cutoff_with j found) (cost_at j.program z)

-- a value that a problem may have as a right side
abbrev pub IsSmallValue : Option ℤ → Type 0
IsSmallValue value = MatchOption value (Unit {0}) (IsWithin (2 ^ 62))

-- how far a cutoff can still fall: it is a number of 64 bits
abbrev pub height : Option ℤ → ℕ
height None = 2 ^ 64
height (Some u) = unsigned_abs (u +ℤ pos (2 ^ 63))
