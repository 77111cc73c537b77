use Rattle.bl_terms.proofs.TreeLemmas.{leaves_are_parts}
use Rattle.bl_terms.proofs.trees.leaves_are_parts.Goals as goal

pub returns : goal.returns
returns g c = leaves_are_parts
