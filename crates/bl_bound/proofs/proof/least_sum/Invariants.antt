use Rattle.std.proofs.Common.{◌≡◌}
use Rattle.bl_whole.specs.Sums.{sum_below}
use Rattle.bl_terms.specs.Bounds.{least_term}
use Rattle.bl_bound.proofs.proof.least_sum.Given as goal

abbrev pub invariant-loop-j : goal.invariant-loop-j
invariant-loop-j l = l.sum ≡ sum_below l.j (least_term l.problem l.proof)
