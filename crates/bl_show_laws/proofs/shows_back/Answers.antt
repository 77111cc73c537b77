use Rattle.bl_show_laws.proofs.Shown.{shows_back}
use Rattle.bl_show_laws.proofs.shows_back.Goals as goal

pub returns : goal.returns
returns c = shows_back
