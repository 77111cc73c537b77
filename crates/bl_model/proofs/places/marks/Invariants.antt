use Rattle.std.proofs.Common.{◌≡◌, ℕ, false, length, drop, slice_index_or}
use Rattle.bl_terms.specs.Points.{is_among}
use Rattle.bl_model.proofs.places.marks.Given as goal

-- the marks of the places from `at` on stand
abbrev pub invariant-loop-at : goal.invariant-loop-at
invariant-loop-at l = record {
  count : length l.marks.items ≡ l.count;
  values : (k : ℕ) → slice_index_or l.marks.items k false ≡ is_among k (drop l.at l.places);
}
