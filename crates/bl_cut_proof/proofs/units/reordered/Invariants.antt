use Rattle.std.proofs.Common.{◌≡◌, ◌++◌, drop}
use Rattle.bl_cut_terms.specs.Adopting.{reordered}
use Rattle.bl_cut_proof.proofs.units.reordered.Given as goal

abbrev pub invariant-loop-place : goal.invariant-loop-place
invariant-loop-place l = reordered l.unit 0 l.order ≡ l.terms.items ++ reordered l.unit l.place (drop l.place l.order)
