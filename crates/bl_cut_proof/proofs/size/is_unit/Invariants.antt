use Rattle.std.proofs.Common.{drop}
use Rattle.bl_cut_terms.specs.NoGoods.{IsUnitFrom}
use Rattle.bl_cut_proof.proofs.size.is_unit.Given as goal

abbrev pub invariant-loop-k : goal.invariant-loop-k
invariant-loop-k l = (IsUnitFrom 0 l.count l.unit → IsUnitFrom l.least l.count (drop l.k l.unit))
    × (IsUnitFrom l.least l.count (drop l.k l.unit) → IsUnitFrom 0 l.count l.unit)
