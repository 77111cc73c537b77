use Rattle.std.proofs.Common.{◌≡◌, ℕ, ◌<◌, take}
use Rattle.bl_limits.specs.declared.TheConstants.{MAX_PROBLEM_COEFFICIENT}
use Rattle.bl_whole.specs.Sums.{component}
use Rattle.bl_whole.specs.Within.{IsWithin}
use Rattle.bl_cut_terms.specs.NoGoods.{lowered_sum}
use Rattle.bl_cut_proof.proofs.sums.column_sums.Given as goal

abbrev pub invariant-loop-column : goal.invariant-loop-column
invariant-loop-column l = record {
  sums : l.sums.items ≡ take l.column (lowered_sum l.columns l.rows).coef;
  small : (j : ℕ) → j < l.column → IsWithin MAX_PROBLEM_COEFFICIENT (component (lowered_sum l.columns l.rows).coef j);
}
