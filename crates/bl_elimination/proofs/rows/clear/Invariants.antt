use Rattle.std.proofs.Common.{◌≡◌, ℕ, ◌<◌, ◌≤◌, length}
use Rattle.std.specs.Prelude.{Some}
use Rattle.bl_elimination.specs.Elimination.{without}
use Rattle.bl_elimination.proofs.RowLists.{row_at}
use Rattle.bl_elimination.proofs.rows.clear.Given as goal

abbrev pub invariant-loop-i : goal.invariant-loop-i
invariant-loop-i l = record {
  done : (k : ℕ) → k < l.i → without l.column l.by (row_at l.fn.rows k) ≡ Some (row_at l.rows k);
  left : (k : ℕ) → l.i ≤ k → row_at l.rows k ≡ row_at l.fn.rows k;
  sizes : (k : ℕ) → k < length l.rows → length (row_at l.rows k) ≡ length l.by;
}
