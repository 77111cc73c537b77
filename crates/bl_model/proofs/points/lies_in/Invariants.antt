use Rattle.std.proofs.Common.{◌≡◌, ℕ, ◌<◌, length}
use Rattle.std.specs.Prelude.{◌≤ℤ◌}
use Rattle.bl_whole.specs.Sums.{component}
use Rattle.bl_model.proofs.points.lies_in.Given as goal

abbrev pub invariant-loop-k : goal.invariant-loop-k
invariant-loop-k l = record {
  columns : length l.z ≡ length l.lo;
  least : (j : ℕ) → j < l.k → component l.lo j ≤ℤ component l.z j;
  most : (j : ℕ) → j < l.k → component l.z j ≤ℤ component l.hi j;
}
