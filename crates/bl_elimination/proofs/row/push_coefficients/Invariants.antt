use Rattle.std.proofs.Common.{◌≡◌, ◌++◌, map, take}
use Rattle.bl_simplex.specs.Fractions.{whole_fraction}
use Rattle.bl_tableau.specs.Cells.{AreReduced}
use Rattle.bl_elimination.proofs.row.push_coefficients.Given as goal

abbrev pub invariant-loop-j : goal.invariant-loop-j
invariant-loop-j l = record {
  items : l.numbers.items ≡ l.fn.numbers.items ++ map whole_fraction (take l.j l.coef);
  numbers : AreReduced l.numbers.items;
}
