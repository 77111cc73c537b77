use Rattle.bl_bound.proofs.SumSteps.{Added}
use Rattle.bl_bound.proofs.sums.add_multiple.Given as goal

abbrev pub invariant-loop-j : goal.invariant-loop-j
invariant-loop-j l = Added l.fn.sums l.sums l.numbers l.factor l.j
