use Rattle.std.specs.List.{AllAdjacentBelow}
use Rattle.bl_certtext.specs.Places.{IsBefore}
use Rattle.bl_certtext.proofs.places.are_in_order.Given as goal

abbrev pub invariant-loop-place : goal.invariant-loop-place
invariant-loop-place l = AllAdjacentBelow IsBefore l.items l.place
