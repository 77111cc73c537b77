use Rattle.bl_terms.proofs.BoundLemmas.{tree_of_refusals}
use Rattle.bl_terms.proofs.bounds.tree_of_refusals.Goals as goal

pub returns : goal.returns
returns c = tree_of_refusals
