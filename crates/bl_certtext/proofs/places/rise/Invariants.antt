use Rattle.std.proofs.Common.{ℤ, ◌<ℤ◌}
use Rattle.std.specs.List.{AllAdjacentBelow}
use Rattle.bl_certtext.proofs.places.rise.Given as goal

abbrev pub invariant-loop-place : goal.invariant-loop-place
invariant-loop-place l = AllAdjacentBelow (λ (x y : ℤ). x <ℤ y) l.numbers l.place
