use Rattle.std.proofs.Common.{ℕ, ◌<◌}
use Rattle.bl_terms.specs.Points.{Meets}
use Rattle.bl_terms.specs.Bounds.{linear_at}
use Rattle.bl_point.proofs.point.meets_rows.Given as goal

abbrev pub invariant-loop-i : goal.invariant-loop-i
invariant-loop-i l = (k : ℕ) → k < l.i → Meets (linear_at l.problem.rows k) l.point
