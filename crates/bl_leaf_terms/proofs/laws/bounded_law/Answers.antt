use Rattle.bl_leaf_terms.proofs.LeafLemmas.{bounded_law}
use Rattle.bl_leaf_terms.proofs.laws.bounded_law.Goals as goal

pub returns : goal.returns
returns c = bounded_law
