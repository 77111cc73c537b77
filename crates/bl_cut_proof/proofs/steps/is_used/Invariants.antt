use Rattle.std.proofs.Common.{◌≡◌, drop}
use Rattle.bl_cut_terms.specs.Adopting.{is_used}
use Rattle.bl_cut_proof.proofs.steps.is_used.Given as goal

abbrev pub invariant-loop-item : goal.invariant-loop-item
invariant-loop-item l = is_used l.cut l.tight ≡ is_used l.cut (drop l.item-index l.tight)
