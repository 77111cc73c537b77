use Rattle.std.proofs.Common.{◌≡◌, ◌+◌, ◌≤◌, length, drop}
use Rattle.bl_elimination.specs.Elimination.{eliminated, nothing_kept}
use Rattle.bl_elimination.specs.Keeping.{HasShape}
use Rattle.bl_elimination.proofs.kept.kept_rows.Given as goal

abbrev pub invariant-loop-i : goal.invariant-loop-i
invariant-loop-i l = record {
  rest : eliminated l.columns nothing_kept 0 l.rows ≡ eliminated l.columns l.kept l.i (drop l.i l.rows);
  shape : HasShape (l.columns + l.columns) l.kept;
  count : length l.kept.rows ≤ l.i;
}
