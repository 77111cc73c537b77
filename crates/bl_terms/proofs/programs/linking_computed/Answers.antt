use Rattle.bl_terms.proofs.ProgramLemmas.{linking_computed}
use Rattle.bl_terms.proofs.programs.linking_computed.Goals as goal

pub returns : goal.returns
returns c = linking_computed
