use Rattle.bl_aux.proofs.Canonicals.{reads_back}
use Rattle.bl_aux.proofs.laws.reads_back.Goals as goal

pub returns : goal.returns
returns c = reads_back
