use Rattle.std.proofs.Common.{ℕ, ◌<◌}
use Rattle.bl_bound.specs.Sums.{RowCloses}
use Rattle.bl_bound.proofs.plain.first_row_alone.Given as goal

abbrev pub invariant-loop-row : goal.invariant-loop-row
invariant-loop-row l = (r : ℕ) → r < l.row → ¬ RowCloses l.problem r
