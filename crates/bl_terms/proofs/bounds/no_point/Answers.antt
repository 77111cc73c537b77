use Rattle.bl_terms.proofs.BoundLemmas.{no_point}
use Rattle.bl_terms.proofs.bounds.no_point.Goals as goal

pub returns : goal.returns
returns c = no_point
