use Rattle.std.proofs.Common.{◌≡◌, ℕ, ◌<◌, pos, nat_eq, if◌then◌else◌}
use Rattle.bl_cut_terms.specs.NoGoods.{combined, unit_at}
use Rattle.bl_cut_proof.proofs.sums.inverts.Given as goal

abbrev pub invariant-loop-column : goal.invariant-loop-column
invariant-loop-column l = (j k : ℕ) → j < l.column → k < l.columns
    → combined l.rows (unit_at l.units j) k ≡ (if nat_eq j k then l.den else pos 0)
