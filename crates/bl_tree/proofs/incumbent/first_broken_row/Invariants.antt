use Rattle.std.proofs.Common.{ℕ, ◌<◌}
use Rattle.bl_terms.specs.Points.{Meets}
use Rattle.bl_terms.specs.Programs.{row_at, inequality}
use Rattle.bl_tree.proofs.incumbent.first_broken_row.Given as goal

abbrev pub invariant-loop-i : goal.invariant-loop-i
invariant-loop-i l = (k : ℕ) → k < l.i → Meets (inequality (row_at l.model.rows k)) l.point
