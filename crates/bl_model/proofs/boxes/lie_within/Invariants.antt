use Rattle.std.proofs.Common.{◌≡◌, ℕ, ◌<◌, length}
use Rattle.std.specs.Prelude.{◌≤ℤ◌}
use Rattle.bl_whole.specs.Sums.{component}
use Rattle.bl_model.proofs.boxes.lie_within.Given as goal

abbrev pub invariant-loop-k : goal.invariant-loop-k
invariant-loop-k l = record {
  columns : length l.lo ≡ length l.outer_lo;
  least : (j : ℕ) → j < l.k → component l.outer_lo j ≤ℤ component l.lo j;
  most : (j : ℕ) → j < l.k → component l.hi j ≤ℤ component l.outer_hi j;
}
