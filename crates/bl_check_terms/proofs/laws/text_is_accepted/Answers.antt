use Rattle.bl_check_terms.proofs.Accepted.{text_is_accepted}
use Rattle.bl_check_terms.proofs.laws.text_is_accepted.Goals as goal

pub returns : goal.returns
returns c = text_is_accepted
