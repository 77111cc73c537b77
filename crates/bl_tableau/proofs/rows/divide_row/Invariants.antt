use Rattle.std.proofs.Common.{◌≡◌, ℕ, ◌+◌, ◌<◌, ◌≤◌}
use Rattle.std.specs.Prelude.{Some, ◌==◌}
use Rattle.bl_simplex.specs.Rationals.{fraction_at}
use Rattle.bl_tableau.specs.Cells.{AreReduced}
use Rattle.bl_simplex.specs.Pivots.{scaled_entry}
use Rattle.bl_tableau.proofs.rows.divide_row.Given as goal

abbrev pub invariant-loop-j : goal.invariant-loop-j
invariant-loop-j l = record {
  pivot : l.pivot ≡ fraction_at l.fn.cells (l.start + l.column);
  shares : (k : ℕ) → k < l.j
      → scaled_entry (fraction_at l.fn.cells (l.start + k)) (fraction_at l.fn.cells (l.start + l.column))
      (k == l.column) ≡ Some (fraction_at l.cells (l.start + k));
  before : (k : ℕ) → k < l.start → fraction_at l.cells k ≡ fraction_at l.fn.cells k;
  after : (k : ℕ) → l.start + l.j ≤ k → fraction_at l.cells k ≡ fraction_at l.fn.cells k;
  numbers : AreReduced l.cells;
}
