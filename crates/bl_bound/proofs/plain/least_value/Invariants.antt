use Rattle.std.proofs.Common.{◌≡◌}
use Rattle.bl_bound.specs.Sums.{least_part}
use Rattle.bl_bound.proofs.plain.least_value.Given as goal

abbrev pub invariant-loop-j : goal.invariant-loop-j
invariant-loop-j l = l.sum ≡ least_part l.coefs l.lo l.hi l.j
