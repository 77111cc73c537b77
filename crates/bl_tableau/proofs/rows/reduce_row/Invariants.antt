use Rattle.std.proofs.Common.{◌≡◌, ℕ, ◌+◌, ◌<◌, ◌≤◌}
use Rattle.std.specs.Prelude.{Some, ◌==◌}
use Rattle.bl_simplex.specs.Rationals.{fraction_at}
use Rattle.bl_tableau.specs.Cells.{AreReduced}
use Rattle.bl_simplex.specs.Pivots.{eliminated_entry}
use Rattle.bl_tableau.proofs.rows.reduce_row.Given as goal

abbrev pub invariant-loop-j : goal.invariant-loop-j
invariant-loop-j l = record {
  factor : l.factor ≡ fraction_at l.fn.cells (l.start + l.column);
  reduced : (k : ℕ) → k < l.j
      → eliminated_entry (fraction_at l.fn.cells (l.start + l.column)) (fraction_at l.fn.cells (l.start + k))
      (fraction_at l.fn.cells (l.pivot + k)) (k == l.column) ≡ Some (fraction_at l.cells (l.start + k));
  before : (k : ℕ) → k < l.start → fraction_at l.cells k ≡ fraction_at l.fn.cells k;
  after : (k : ℕ) → l.start + l.j ≤ k → fraction_at l.cells k ≡ fraction_at l.fn.cells k;
  numbers : AreReduced l.cells;
}
