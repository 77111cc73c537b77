use Rattle.std.proofs.Common.{◌≡◌, ℕ, ◌<◌}
use Rattle.bl_whole.specs.Sums.{dot}
use Rattle.bl_terms.specs.Bounds.{linear_at}
use Rattle.bl_cut_proof.proofs.tight.hold_with_equality.Given as goal

abbrev pub invariant-loop-i : goal.invariant-loop-i
invariant-loop-i l = (j : ℕ) → j < l.i → dot (linear_at l.rows j).coef l.point ≡ (linear_at l.rows j).rhs
