use Rattle.bl_check_terms.proofs.Verdict.{have_one_verdict}
use Rattle.bl_check_terms.proofs.laws.have_one_verdict.Goals as goal

pub returns : goal.returns
returns c = have_one_verdict
