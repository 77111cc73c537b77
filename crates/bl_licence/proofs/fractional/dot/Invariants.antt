use Rattle.std.proofs.Common.{◌≡◌}
use Rattle.std.specs.Prelude.{◌*ℤ◌}
use Rattle.bl_whole.specs.Sums.{component, sum_below}
use Rattle.bl_licence.proofs.fractional.dot.Given as goal

abbrev pub invariant-loop-k : goal.invariant-loop-k
invariant-loop-k l = l.sum ≡ sum_below l.k (λ j. component l.coefs j *ℤ component l.values j)
