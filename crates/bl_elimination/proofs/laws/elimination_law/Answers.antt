use Rattle.bl_elimination.proofs.Law.{elimination_is_basis}
use Rattle.bl_elimination.proofs.laws.elimination_law.Goals as goal

pub returns : goal.returns
returns c = elimination_is_basis
