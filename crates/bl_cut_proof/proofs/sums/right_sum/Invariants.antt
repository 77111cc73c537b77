use Rattle.std.proofs.Common.{◌≡◌, ◌*◌}
use Rattle.bl_limits.specs.declared.TheConstants.{MAX_PROBLEM_RHS}
use Rattle.bl_whole.specs.Sums.{sum_below}
use Rattle.bl_whole.specs.Within.{IsWithin}
use Rattle.bl_terms.specs.Bounds.{linear_at}
use Rattle.bl_cut_proof.proofs.sums.right_sum.Given as goal

abbrev pub invariant-loop-i : goal.invariant-loop-i
invariant-loop-i l = record {
  value : l.sum ≡ sum_below l.i (λ i. (linear_at l.rows i).rhs);
  size : IsWithin (l.i * MAX_PROBLEM_RHS) l.sum;
}
