use Rattle.std.proofs.Common.{◌≡◌, ◌++◌, drop}
use Rattle.bl_tableau.specs.Cells.{AreReduced}
use Rattle.bl_elimination.specs.Elimination.{identity_parts}
use Rattle.bl_elimination.proofs.rows.identity_parts.Given as goal

abbrev pub invariant-loop-i : goal.invariant-loop-i
invariant-loop-i l = record {
  rest : identity_parts l.columns l.rows ≡ l.parts.items ++ identity_parts l.columns (drop l.i l.rows);
  numbers : AreReduced l.parts.items;
}
