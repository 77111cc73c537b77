use Rattle.bl_leaf_terms.proofs.LeafLemmas.{value_row_law}
use Rattle.bl_leaf_terms.proofs.laws.value_row_law.Goals as goal

pub returns : goal.returns
returns c = value_row_law
