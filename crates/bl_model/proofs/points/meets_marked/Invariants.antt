use Rattle.std.proofs.Common.{ℕ, ◌<◌}
use Rattle.std.specs.Prelude.{IsTrue}
use Rattle.bl_terms.specs.Points.{Meets}
use Rattle.bl_terms.specs.Programs.{row_at, inequality}
use Rattle.bl_model.proofs.points.meets_marked.Given as goal

abbrev pub invariant-loop-row : goal.invariant-loop-row
invariant-loop-row l = (i : ℕ) → i < l.row-index → IsTrue (row_at l.rows i).lower
    → Meets (inequality (row_at l.rows i)) l.z
