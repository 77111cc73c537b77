use Rattle.std.proofs.Common.{◌≡◌, ℕ, length, drop}
use Rattle.bl_whole.specs.Sums.{component}
use Rattle.bl_model.specs.Build.{number_for}
use Rattle.bl_model.proofs.places.numbers.Given as goal

-- the numbers of the pairs from `at` on stand
abbrev pub invariant-loop-at : goal.invariant-loop-at
invariant-loop-at l = record {
  count : length l.values.items ≡ l.count;
  values : (k : ℕ) → component l.values.items k ≡ number_for (drop l.at l.pairs) k;
}
