use Rattle.bl_leaf_terms.proofs.LeafLemmas.{leaf_law}
use Rattle.bl_leaf_terms.proofs.laws.leaf_law.Goals as goal

pub returns : goal.returns
returns c = leaf_law
