use Rattle.std.proofs.Common.{ℕ, ◌<◌}
use Rattle.bl_cut_terms.specs.NoGoods.{IsUnit, unit_at}
use Rattle.bl_cut_proof.proofs.size.are_units.Given as goal

abbrev pub invariant-loop-k : goal.invariant-loop-k
invariant-loop-k l = (j : ℕ) → j < l.k → IsUnit l.count (unit_at l.units j)
