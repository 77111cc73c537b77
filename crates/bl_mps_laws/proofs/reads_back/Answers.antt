use Rattle.bl_mps_laws.proofs.Said.{reads_back}
use Rattle.bl_mps_laws.proofs.reads_back.Goals as goal

pub returns : goal.returns
returns c = reads_back
