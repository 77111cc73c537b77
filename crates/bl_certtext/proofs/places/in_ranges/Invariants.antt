use Rattle.std.proofs.Common.{ℕ, ◌<◌, ◌≤ℤ◌}
use Rattle.std.specs.Prelude.{slice_index}
use Rattle.bl_whole.specs.Sums.{component}
use Rattle.bl_certtext.proofs.places.in_ranges.Given as goal

abbrev pub invariant-loop-j : goal.invariant-loop-j
invariant-loop-j l = record {
  least : (k : ℕ) → k < l.j → component l.model.lo (slice_index l.places k) ≤ℤ component l.values k;
  most : (k : ℕ) → k < l.j → component l.values k ≤ℤ component l.model.hi (slice_index l.places k);
}
