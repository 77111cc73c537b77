use Rattle.std.proofs.Common.{◌≡◌, ◌+◌, length, false}
use Rattle.bl_tableau.proofs.tests.pivot_along.Given as goal

abbrev pub invariant-loop-i : goal.invariant-loop-i
invariant-loop-i g l = record {
  not_spent : l.tableau.spent ≡ false;
  problem : l.tableau.problem ≡ l.fn.tableau.problem;
  most : l.tableau.most ≡ l.fn.tableau.most;
  count : length l.tableau.pivots ≡ length l.fn.tableau.pivots + l.i;
}
