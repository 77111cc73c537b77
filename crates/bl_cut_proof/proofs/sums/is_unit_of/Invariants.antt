use Rattle.std.proofs.Common.{◌≡◌, ℕ, ◌<◌, pos, nat_eq, if◌then◌else◌}
use Rattle.bl_cut_terms.specs.NoGoods.{combined}
use Rattle.bl_cut_proof.proofs.sums.is_unit_of.Given as goal

abbrev pub invariant-loop-column : goal.invariant-loop-column
invariant-loop-column l = (k : ℕ) → k < l.column → combined l.rows l.unit k
    ≡ (if nat_eq l.alone k then l.den else pos 0)
