use Rattle.bl_leaf_terms.proofs.LeafLemmas.{incumbent_law}
use Rattle.bl_leaf_terms.proofs.laws.incumbent_law.Goals as goal

pub returns : goal.returns
returns c = incumbent_law
