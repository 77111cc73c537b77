use Rattle.std.proofs.Common.{◌≡◌, ℕ, ◌<◌}
use Rattle.bl_simplex.specs.Rationals.{fraction_at}
use Rattle.bl_relax.proofs.point.are_whole.Given as goal

abbrev pub invariant-loop-j : goal.invariant-loop-j
invariant-loop-j l = (k : ℕ) → k < l.j → (fraction_at l.distances k).den ≡ 1
