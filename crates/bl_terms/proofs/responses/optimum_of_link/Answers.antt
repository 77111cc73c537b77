use Rattle.bl_terms.proofs.ResponseLemmas.{optimum_of_link}
use Rattle.bl_terms.proofs.responses.optimum_of_link.Goals as goal

pub returns : goal.returns
returns c = optimum_of_link
