use Rattle.bl_simplex.specs.Rationals.{fraction_at}
use Rattle.bl_licence.proofs.Distances.{ColumnsSoFar}
use Rattle.bl_licence.proofs.fractional.scaled_point.Given as goal

abbrev pub invariant-loop-j : goal.invariant-loop-j
invariant-loop-j l = ColumnsSoFar l.problem l.common (fraction_at l.distances) l.point.items l.j
