use Rattle.std.proofs.Common.{ℕ, ◌<◌, pos, ◌*ℤ◌, ◌≤ℤ◌}
use Rattle.bl_whole.specs.Sums.{dot}
use Rattle.bl_terms.specs.Bounds.{linear_at}
use Rattle.bl_licence.proofs.fractional.meets_rows.Given as goal

abbrev pub invariant-loop-i : goal.invariant-loop-i
invariant-loop-i l = (k : ℕ) → k < l.i
    → dot (linear_at l.problem.rows k).coef l.point ≤ℤ ((linear_at l.problem.rows k).rhs *ℤ pos l.common)
