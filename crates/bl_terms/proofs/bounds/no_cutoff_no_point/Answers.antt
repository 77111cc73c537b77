use Rattle.bl_terms.proofs.BoundLemmas.{no_cutoff_no_point}
use Rattle.bl_terms.proofs.bounds.no_cutoff_no_point.Goals as goal

pub returns : goal.returns
returns c = no_cutoff_no_point
