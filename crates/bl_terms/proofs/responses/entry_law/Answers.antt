use Rattle.bl_terms.proofs.ResponseLemmas.{entry_law}
use Rattle.bl_terms.proofs.responses.entry_law.Goals as goal

pub returns : goal.returns
returns c = entry_law
