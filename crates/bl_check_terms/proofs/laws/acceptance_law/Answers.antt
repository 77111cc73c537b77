use Rattle.bl_check_terms.proofs.Accepted.{acceptance_law}
use Rattle.bl_check_terms.proofs.laws.acceptance_law.Goals as goal

pub returns : goal.returns
returns c = acceptance_law
