use Rattle.std.proofs.Common.{◌≡◌, length}
use Rattle.bl_simplex.specs.Licences.{pivot_limit}
use Rattle.bl_relax.specs.Runs.{IsRunOfSteps}
use Rattle.bl_relax.proofs.relaxation.relax.Given as goal

abbrev pub invariant-loop-taken : goal.invariant-loop-taken
invariant-loop-taken l = record {
  run : IsRunOfSteps l.problem l.cutoff l.tableau;
  count : length l.tableau.pivots ≡ l.taken;
  most : l.tableau.most ≡ pivot_limit l.problem;
}
