use Rattle.bl_certline.proofs.LineReading.{one_line}
use Rattle.bl_certline.proofs.laws.spellings_have_one_meaning.Goals as goal

pub returns : goal.returns
returns c = one_line
