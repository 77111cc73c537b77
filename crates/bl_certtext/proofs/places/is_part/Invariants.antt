use Rattle.std.proofs.Common.{ℕ, ◌<◌, ◌≤ℤ◌}
use Rattle.bl_whole.specs.Sums.{component}
use Rattle.bl_certtext.specs.Places.{side_at}
use Rattle.bl_certtext.proofs.places.is_part.Given as goal

abbrev pub invariant-loop-column : goal.invariant-loop-column
invariant-loop-column l = record {
  least : (k : ℕ) → k < l.column → component l.model.lo k ≤ℤ (side_at l.sides k).0;
  ordered : (k : ℕ) → k < l.column → (side_at l.sides k).0 ≤ℤ (side_at l.sides k).1;
  most : (k : ℕ) → k < l.column → (side_at l.sides k).1 ≤ℤ component l.model.hi k;
}
