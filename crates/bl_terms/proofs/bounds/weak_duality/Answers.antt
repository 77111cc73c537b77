use Rattle.bl_terms.proofs.BoundLemmas.{weak_duality}
use Rattle.bl_terms.proofs.bounds.weak_duality.Goals as goal

pub returns : goal.returns
returns c = weak_duality
