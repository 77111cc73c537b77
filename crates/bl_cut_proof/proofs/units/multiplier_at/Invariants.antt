use Rattle.std.proofs.Common.{◌≡◌, drop}
use Rattle.bl_cut_terms.specs.Adopting.{multiplier_at}
use Rattle.bl_cut_proof.proofs.units.multiplier_at.Given as goal

abbrev pub invariant-loop-item : goal.invariant-loop-item
invariant-loop-item l = multiplier_at l.unit l.place ≡ multiplier_at (drop l.item-index l.unit) l.place
