use Rattle.std.proofs.Common.{◌≡◌, length, drop}
use Rattle.bl_elimination.specs.Elimination.{reduced}
use Rattle.bl_elimination.proofs.rows.reduce_by.Given as goal

abbrev pub invariant-loop-i : goal.invariant-loop-i
invariant-loop-i l = record {
  rest : reduced l.columns l.rows l.fn.row ≡ reduced (drop l.i l.columns) (drop l.i l.rows) l.row;
  size : length l.row ≡ length l.fn.row;
}
