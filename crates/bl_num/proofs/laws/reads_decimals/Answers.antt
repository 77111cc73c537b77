use Rattle.bl_num.proofs.Meanings.{reads_decimals}
use Rattle.bl_num.proofs.laws.reads_decimals.Goals as goal

pub returns : goal.returns
returns c = reads_decimals
