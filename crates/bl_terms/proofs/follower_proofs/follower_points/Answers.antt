use Rattle.bl_terms.proofs.FollowerProofLemmas.{follower_points}
use Rattle.bl_terms.proofs.follower_proofs.follower_points.Goals as goal

pub returns : goal.returns
returns c = follower_points
