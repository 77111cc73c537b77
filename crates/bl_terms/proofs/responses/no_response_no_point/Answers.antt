use Rattle.bl_terms.proofs.ResponseLemmas.{no_response_no_point}
use Rattle.bl_terms.proofs.responses.no_response_no_point.Goals as goal

pub returns : goal.returns
returns c = no_response_no_point
