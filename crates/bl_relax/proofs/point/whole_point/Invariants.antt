use Rattle.bl_relax.proofs.WholePoints.{PointSoFar}
use Rattle.bl_relax.proofs.point.whole_point.Given as goal

abbrev pub invariant-loop-j : goal.invariant-loop-j
invariant-loop-j l = PointSoFar l.problem l.distances l.point.items l.j
