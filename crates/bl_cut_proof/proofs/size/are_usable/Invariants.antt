use Rattle.std.proofs.Common.{ℕ, ◌<◌}
use Rattle.bl_cut_terms.specs.Adopting.{item_at}
use Rattle.bl_cut_proof.specs.Rows.{IsUsable}
use Rattle.bl_cut_proof.proofs.size.are_usable.Given as goal

abbrev pub invariant-loop-k : goal.invariant-loop-k
invariant-loop-k l = (j : ℕ) → j < l.k → IsUsable l.model l.area l.earlier (item_at l.tight j)
