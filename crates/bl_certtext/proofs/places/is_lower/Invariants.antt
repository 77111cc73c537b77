use Rattle.std.proofs.Common.{◌≡◌, ℕ, ◌<◌}
use Rattle.bl_whole.specs.Sums.{component}
use Rattle.bl_certtext.proofs.places.is_lower.Given as goal

abbrev pub invariant-loop-place : goal.invariant-loop-place
invariant-loop-place l = (k : ℕ) → k < l.place → component l.xs k ≡ component l.ys k
