use Rattle.std.proofs.Common.{ℕ, ◌<◌}
use Rattle.bl_whole.specs.Sums.{component}
use Rattle.bl_whole.specs.Within.{IsWithin}
use Rattle.bl_bound.proofs.sizes.are_within.Given as goal

abbrev pub invariant-loop-number : goal.invariant-loop-number
invariant-loop-number l = (k : ℕ) → k < l.number-index → IsWithin l.most (component l.numbers k)
