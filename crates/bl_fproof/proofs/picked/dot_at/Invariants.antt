use Rattle.std.proofs.Common.{◌≡◌}
use Rattle.std.specs.Prelude.{◌*ℤ◌, slice_index}
use Rattle.bl_whole.specs.Sums.{component, sum_below}
use Rattle.bl_terms.specs.Points.{values_at}
use Rattle.bl_fproof.proofs.picked.dot_at.Given as goal

abbrev pub invariant-loop-j : goal.invariant-loop-j
invariant-loop-j l = l.sum ≡ sum_below l.j (λ k. component (values_at l.coef l.places) k *ℤ component l.values k)
