use Rattle.std.proofs.Common.{◌≡◌, ◌*◌, ◌^◌, ◌+ℤ◌, drop}
use Rattle.bl_limits.specs.declared.TheConstants.{MAX_PROBLEM_COEFFICIENT}
use Rattle.bl_whole.specs.Within.{IsWithin}
use Rattle.bl_cut_terms.specs.NoGoods.{combined}
use Rattle.bl_cut_proof.proofs.sums.combined.Given as goal

abbrev pub invariant-loop-k : goal.invariant-loop-k
invariant-loop-k l = record {
  value : combined l.rows l.unit l.column ≡ l.sum +ℤ combined l.rows (drop l.k l.unit) l.column;
  size : IsWithin (l.k * (2 ^ 50 * MAX_PROBLEM_COEFFICIENT)) l.sum;
}
