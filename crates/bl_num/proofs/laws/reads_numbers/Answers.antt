use Rattle.bl_num.proofs.Meanings.{reads_numbers}
use Rattle.bl_num.proofs.laws.reads_numbers.Goals as goal

pub returns : goal.returns
returns c = reads_numbers
