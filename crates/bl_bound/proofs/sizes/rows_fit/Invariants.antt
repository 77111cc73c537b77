use Rattle.std.proofs.Common.{ℕ, ◌<◌}
use Rattle.bl_whole.specs.Within.{IsWithin, AreWithin}
use Rattle.bl_limits.specs.declared.TheConstants.{MAX_PROBLEM_COEFFICIENT, MAX_PROBLEM_RHS}
use Rattle.bl_terms.specs.Bounds.{linear_at}
use Rattle.bl_bound.proofs.sizes.rows_fit.Given as goal

abbrev pub invariant-loop-i : goal.invariant-loop-i
invariant-loop-i l = (k : ℕ) → k < l.i
    → AreWithin MAX_PROBLEM_COEFFICIENT (linear_at l.rows k).coef × IsWithin MAX_PROBLEM_RHS (linear_at l.rows k).rhs
