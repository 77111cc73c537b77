use Rattle.std.proofs.Common.{◌≡◌, ℕ, ◌<◌}
use Rattle.bl_whole.specs.Sums.{component}
use Rattle.bl_model.proofs.boxes.are_single.Given as goal

abbrev pub invariant-loop-k : goal.invariant-loop-k
invariant-loop-k l = (j : ℕ) → j < l.k → component l.lo j ≡ component l.hi j
