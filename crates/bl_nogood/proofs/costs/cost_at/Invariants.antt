use Rattle.std.proofs.Common.{◌≡◌}
use Rattle.std.specs.Prelude.{◌*ℤ◌}
use Rattle.bl_whole.specs.Sums.{component, sum_below}
use Rattle.bl_terms.specs.Points.{values_at}
use Rattle.bl_nogood.proofs.costs.cost_at.Given as goal

abbrev pub invariant-loop-j : goal.invariant-loop-j
invariant-loop-j l = l.cost ≡ sum_below l.j (λ k. component (values_at l.costs l.columns) k *ℤ component l.values k)
