use Rattle.bl_aux.proofs.GoodLines.{says_followers}
use Rattle.bl_aux.proofs.laws.says_followers.Goals as goal

pub returns : goal.returns
returns c = says_followers
