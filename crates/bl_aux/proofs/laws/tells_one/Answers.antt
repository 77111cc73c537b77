use Rattle.bl_aux.proofs.Meanings.{tells_one}
use Rattle.bl_aux.proofs.laws.tells_one.Goals as goal

pub returns : goal.returns
returns c = tells_one
