-- Trusted. When the parts of a new cut show it, with the cuts that there are already, and what fails first.
use Rattle.std.specs.Prelude.{◌≡◌, ℕ, List, map, All, Some, IsSome}
use Rattle.bl_limits.specs.declared.TheConstants.{MAX_PROBLEM_COEFFICIENT, MAX_PROBLEM_RHS}
use Rattle.bl_whole.specs.Within.{IsWithin, AreWithin}
use Rattle.bl_terms.specs.Points.{Area, Linear}
use Rattle.bl_terms.specs.Programs.{Program, columns}
use Rattle.bl_cut_terms.specs.declared.parts.Tight.{Tight}
use Rattle.bl_cut_terms.specs.declared.parts.Tight.TheVariants.{Row, Upper, Lower, Cut}
use Rattle.bl_cut_terms.specs.declared.parts.CutParts.{CutParts}
use Rattle.bl_cut_terms.specs.NoGoods.{LocalRow, NoGoodCut, cut_of, tight_rows, HasSize, Inverts, IsTightAt}
use Rattle.bl_cut_terms.specs.NoGoods.{HasBetterResponse, IsNoGood, CutStep, cut_row}
use Rattle.bl_cut.specs.Cuts.{cut_at}
use Rattle.bl_cut_proof.specs.declared.fault.CutFault.{CutFault}
use Rattle.bl_cut_proof.specs.declared.fault.CutFault.TheVariants.{Size, Inverse, Tight as TightFault, Response, Memory}
use Rattle.bl_cut_terms.specs.Adopting.{steps_of, moved_parts}

-- the earlier cuts' boxes and rows
abbrev pub local_rows : List NoGoodCut → List LocalRow
local_rows earlier = map cut_of earlier

-- an earlier cut that is used is of the program
abbrev pub IsOfProgram : Program → List NoGoodCut → Tight → Type 0
IsOfProgram p earlier (Row i) = Unit {0}
IsOfProgram p earlier (Upper j) = Unit {0}
IsOfProgram p earlier (Lower j) = Unit {0}
IsOfProgram p earlier (Cut k) = (cut_at earlier k).program ≡ p

-- the cuts that are used are of the program, items and numbers are as they should be, and no step of the cut uses two
-- steps that are one
pub record AreParts (p : Program) (a : Area) (earlier : List NoGoodCut) (parts : CutParts) : Type 0 where
  pub models : All (IsOfProgram p earlier) parts.tight
  pub size : HasSize p a (local_rows earlier) parts
  pub steps : IsSome (steps_of p a earlier parts)

abbrev pub IsInverse : Program → Area → List NoGoodCut → CutParts → Type 0
IsInverse p a earlier parts =
    Inverts (columns p) (tight_rows p a (local_rows earlier) parts.tight) parts.den parts.units

abbrev pub IsTight : Program → Area → List NoGoodCut → CutParts → Type 0
IsTight p a earlier parts = IsTightAt p (tight_rows p a (local_rows earlier) parts.tight) parts.point

-- the row's numbers are within the limits of a cut
pub record IsSmallRow (r : Linear) : Type 0 where
  pub coef : AreWithin MAX_PROBLEM_COEFFICIENT r.coef
  pub rhs : IsWithin MAX_PROBLEM_RHS r.rhs

-- the cut of the parts: they show it, and it has its own step behind those of the cuts that it uses
pub record IsCutOf (p : Program) (a : Area) (earlier : List NoGoodCut) (parts : CutParts) (c : NoGoodCut) : Type 0 where
  pub shown : IsNoGood p a (local_rows earlier) parts
  pub models : All (IsOfProgram p earlier) parts.tight
  pub program : c.program ≡ p
  pub steps : steps_of p a earlier parts ≡ Some c.steps

-- a step has the box, the row and the parts that were handed in, but for the places and the order of the cuts that are
-- used
pub record IsOwnStep (p : Program) (a : Area) (earlier : List NoGoodCut) (parts : CutParts) (s : CutStep) : Type 0 where
  pub places : List ℕ
  pub area : s.area ≡ a
  pub row : s.row ≡ cut_row p a (local_rows earlier) parts.tight
  pub parts_are : s.parts ≡ moved_parts places parts

-- the fault is the first
abbrev pub IsFault : Program → Area → List NoGoodCut → CutParts → CutFault → Type 0
IsFault p a earlier parts Size = ¬ AreParts p a earlier parts
IsFault p a earlier parts Inverse = AreParts p a earlier parts × ¬ IsInverse p a earlier parts
IsFault p a earlier parts TightFault =
    AreParts p a earlier parts × IsInverse p a earlier parts × ¬ IsTight p a earlier parts
IsFault p a earlier parts Response =
    AreParts p a earlier parts × IsInverse p a earlier parts × IsTight p a earlier parts
    × ¬ HasBetterResponse p parts.point parts.response
IsFault p a earlier parts Memory = Unit {0}
