use Rattle.std.proofs.Common.{◌≡◌, false, slice_index_or}
use Rattle.bl_terms.specs.Programs.{places_where}
use Rattle.bl_model.proofs.places.marked.Given as goal

-- the places below `place` whose marks are set
abbrev pub invariant-loop-place : goal.invariant-loop-place
invariant-loop-place l = l.places.items ≡ places_where (λ k. slice_index_or l.marks k false) l.place
