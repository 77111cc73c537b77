use Rattle.std.proofs.Common.{◌+◌, length}
use Rattle.bl_tableau.proofs.OpeningSteps.{RowsOpened}
use Rattle.bl_tableau.proofs.opening.opening_cells.Given as goal

abbrev pub invariant-loop-i : goal.invariant-loop-i
invariant-loop-i l = RowsOpened l.problem l.cells.items l.i

abbrev pub invariant-loop-k : goal.invariant-loop-k
invariant-loop-k l = RowsOpened l.problem l.cells.items (length l.problem.rows + l.k)
