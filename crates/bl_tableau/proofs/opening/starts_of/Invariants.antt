use Rattle.std.proofs.Common.{◌≡◌, ℕ, ◌<◌, length}
use Rattle.bl_whole.specs.Sums.{component}
use Rattle.bl_whole.specs.Within.{AreWithin}
use Rattle.bl_simplex.specs.Dictionaries.{start_at}
use Rattle.bl_tableau.proofs.opening.starts_of.Given as goal

abbrev pub invariant-loop-j : goal.invariant-loop-j
invariant-loop-j l = record {
  size : length l.starts.items ≡ l.j;
  each : (k : ℕ) → k < l.j → component l.starts.items k ≡ start_at l.problem k;
  within : AreWithin 10000000 l.starts.items;
}
