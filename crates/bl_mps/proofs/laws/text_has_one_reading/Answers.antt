use Rattle.bl_mps.proofs.OneModel.{has_one_reading}
use Rattle.bl_mps.proofs.laws.text_has_one_reading.Goals as goal

pub returns : goal.returns
returns c = has_one_reading
