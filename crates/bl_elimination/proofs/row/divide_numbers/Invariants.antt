use Rattle.std.proofs.Common.{◌≡◌, ℕ, ◌<◌, ◌≤◌}
use Rattle.std.specs.Prelude.{Some}
use Rattle.bl_simplex.specs.Fractions.{quotient_of}
use Rattle.bl_simplex.specs.Rationals.{fraction_at}
use Rattle.bl_tableau.specs.Cells.{AreReduced}
use Rattle.bl_elimination.proofs.row.divide_numbers.Given as goal

abbrev pub invariant-loop-j : goal.invariant-loop-j
invariant-loop-j l = record {
  done : (k : ℕ) → k < l.j → quotient_of (fraction_at l.fn.numbers k) l.pivot ≡ Some (fraction_at l.numbers k);
  left : (k : ℕ) → l.j ≤ k → fraction_at l.numbers k ≡ fraction_at l.fn.numbers k;
  numbers : AreReduced l.numbers;
}
