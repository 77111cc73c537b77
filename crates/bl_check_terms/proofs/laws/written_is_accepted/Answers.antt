use Rattle.bl_check_terms.proofs.Written.{written_is_accepted}
use Rattle.bl_check_terms.proofs.laws.written_is_accepted.Goals as goal

pub returns : goal.returns
returns c = written_is_accepted
