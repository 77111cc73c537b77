use Rattle.bl_tableau.specs.Cells.{AreReduced}
use Rattle.bl_tableau.proofs.RowSteps.{RowsDone}
use Rattle.bl_tableau.proofs.rows.pivot_rows.Given as goal

abbrev pub invariant-loop-i : goal.invariant-loop-i
invariant-loop-i l = record {
  rows : RowsDone l.fn.cells l.cells l.rows l.width l.at.row l.at.column l.i;
  numbers : AreReduced l.cells;
}
