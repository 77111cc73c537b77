use Rattle.bl_tree.proofs.PlainLaws.{plain_proof_closes}
use Rattle.bl_tree.proofs.laws.plain_proof_closes.Goals as goal

pub returns : goal.returns
returns c = plain_proof_closes
