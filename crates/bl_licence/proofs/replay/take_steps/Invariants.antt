use Rattle.bl_licence.proofs.StepLaws.{StepsSoFar}
use Rattle.bl_licence.proofs.replay.take_steps.Given as goal

abbrev pub invariant-loop-k : goal.invariant-loop-k
invariant-loop-k l = StepsSoFar l.cutoff l.fn.tableau l.tableau l.pivots l.k
