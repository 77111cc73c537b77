use Rattle.bl_terms.proofs.ResponseLemmas.{entry_is_optimum}
use Rattle.bl_terms.proofs.responses.entry_is_optimum.Goals as goal

pub returns : goal.returns
returns c = entry_is_optimum
