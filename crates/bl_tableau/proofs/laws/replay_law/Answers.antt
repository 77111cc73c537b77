use Rattle.bl_tableau.proofs.ReplayInduction.{replay_law}
use Rattle.bl_tableau.proofs.laws.replay_law.Goals as goal

pub returns : goal.returns
returns c = replay_law
