use Rattle.std.proofs.Common.{◌≡◌, ℕ, ◌<◌, ◌≤◌}
use Rattle.std.specs.Prelude.{Some}
use Rattle.bl_simplex.specs.Rationals.{fraction_at}
use Rattle.bl_tableau.specs.Cells.{AreReduced}
use Rattle.bl_elimination.specs.Elimination.{less_multiple}
use Rattle.bl_elimination.proofs.row.take_multiple.Given as goal

abbrev pub invariant-loop-j : goal.invariant-loop-j
invariant-loop-j l = record {
  done : (k : ℕ) → k < l.j
      → less_multiple (fraction_at l.fn.numbers k) l.factor (fraction_at l.by k) ≡ Some (fraction_at l.numbers k);
  left : (k : ℕ) → l.j ≤ k → fraction_at l.numbers k ≡ fraction_at l.fn.numbers k;
  numbers : AreReduced l.numbers;
}
