-- Internal. A fault of a part of the work: of size, for a reason, or of memory.
use Rattle.std.specs.Prelude.{List}
use Rattle.bl_terms.specs.Points.{Linear}
use Rattle.bl_terms.specs.Programs.{Program, columns}
use Rattle.bl_cut_terms.specs.declared.parts.CutParts.{CutParts}
use Rattle.bl_cut_terms.specs.NoGoods.{Inverts, IsTightAt, HasBetterResponse}
use Rattle.bl_cut_proof.specs.declared.fault.CutFault.{CutFault}
use Rattle.bl_cut_proof.specs.declared.fault.CutFault.TheVariants.{Size, Inverse, Tight, Response, Memory}

abbrev pub IsSizeFault : Type 0 → CutFault → Type 0
IsSizeFault P Size = P
IsSizeFault P Inverse = ⊥
IsSizeFault P Tight = ⊥
IsSizeFault P Response = ⊥
IsSizeFault P Memory = Unit {0}

-- the rows' combinations, the point and the response are as they should be
pub record AreShown (p : Program) (rows : List Linear) (parts : CutParts) : Type 0 where
  pub inverse : Inverts (columns p) rows parts.den parts.units
  pub tight : IsTightAt p rows parts.point
  pub response : HasBetterResponse p parts.point parts.response

-- what of them fails first
abbrev pub IsRowsFault : Program → List Linear → CutParts → CutFault → Type 0
IsRowsFault p rows parts Size = ⊥
IsRowsFault p rows parts Inverse = ¬ Inverts (columns p) rows parts.den parts.units
IsRowsFault p rows parts Tight = Inverts (columns p) rows parts.den parts.units × ¬ IsTightAt p rows parts.point
IsRowsFault p rows parts Response =
    Inverts (columns p) rows parts.den parts.units × IsTightAt p rows parts.point
    × ¬ HasBetterResponse p parts.point parts.response
IsRowsFault p rows parts Memory = Unit {0}
