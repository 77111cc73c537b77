use Rattle.bl_pool.proofs.Finds.{found}
use Rattle.bl_pool.proofs.laws.finds_the_link.Goals as goal

pub returns : goal.returns
returns c = found
