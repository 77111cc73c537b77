use Rattle.std.proofs.Common.{◌≡◌}
use Rattle.bl_simplex.specs.Gcd.{gcd}
use Rattle.bl_frac.proofs.divisor.gcd_of_words.Given as goal

abbrev pub invariant-loop-less : goal.invariant-loop-less
invariant-loop-less l = gcd l.greater l.less ≡ gcd l.fn.a l.fn.b

abbrev pub decreases-loop-less : goal.decreases-loop-less
decreases-loop-less l = l.less
