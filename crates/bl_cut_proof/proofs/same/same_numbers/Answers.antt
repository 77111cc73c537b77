use Rattle.std.specs.Cmp.Rules.{signed_items}
use Rattle.bl_cut_proof.proofs.same.same_numbers.Goals as goal

pub returns : goal.returns
returns c = rw (c.eq.ensures) (signed_items _ _)
