use Rattle.bl_terms.proofs.FollowerProofLemmas.{follower_proof_law}
use Rattle.bl_terms.proofs.follower_proofs.follower_proof_law.Goals as goal

pub returns : goal.returns
returns c = follower_proof_law
