use Rattle.std.proofs.Common.{◌≡◌, ℕ, ◌+◌, ◌<◌, length}
use Rattle.std.specs.Prelude.{slice_index}
use Rattle.bl_tableau.proofs.opening.numbers.Given as goal

abbrev pub invariant-loop-k : goal.invariant-loop-k
invariant-loop-k l = record {
  size : length l.list.items ≡ l.k;
  value : (j : ℕ) → j < l.k → slice_index l.list.items j ≡ l.from + j;
}
