use Rattle.bl_terms.proofs.TreeLemmas.{each_point_in_one_leaf}
use Rattle.bl_terms.proofs.trees.each_point_in_one_leaf.Goals as goal

pub returns : goal.returns
returns g c = each_point_in_one_leaf
