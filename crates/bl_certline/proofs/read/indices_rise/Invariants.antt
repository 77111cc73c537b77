use Rattle.std.proofs.Common.{ℤ, ◌<ℤ◌}
use Rattle.std.specs.List.{AllAdjacentBelow}
use Rattle.bl_certline.proofs.read.indices_rise.Given as goal

abbrev pub invariant-loop-place : goal.invariant-loop-place
invariant-loop-place l = AllAdjacentBelow (λ (p q : ℤ × ℤ). p.0 <ℤ q.0) l.pairs l.place
