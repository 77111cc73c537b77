use Rattle.std.proofs.Common.{◌≡◌, take, map}
use Rattle.bl_cut_terms.specs.Adopting.{reordered}
use Rattle.bl_cut_proof.proofs.units.reordered_units.Given as goal

abbrev pub invariant-loop-unit : goal.invariant-loop-unit
invariant-loop-unit l = l.moved.items ≡ take l.unit-index (map (λ unit. reordered unit 0 l.order) l.units)
