use Rattle.std.proofs.Common.{ℕ, ◌<◌}
use Rattle.bl_simplex.specs.Closing.{ClosesByRow}
use Rattle.bl_tableau.specs.Runs.{current}
use Rattle.bl_licence.proofs.closing.first_closing_row.Given as goal

abbrev pub invariant-loop-row : goal.invariant-loop-row
invariant-loop-row l = (k : ℕ) → k < l.row → ¬ ClosesByRow l.tableau.problem (current l.tableau) k
