use Rattle.bl_certtext.proofs.Readings.{have_one_reading}
use Rattle.bl_certtext.proofs.laws.texts_have_one_reading.Goals as goal

pub returns : goal.returns
returns c = have_one_reading
