use Rattle.bl_terms.proofs.TreeLemmas.{leaves_at_most_points}
use Rattle.bl_terms.proofs.trees.leaves_at_most_points.Goals as goal

pub returns : goal.returns
returns g c = leaves_at_most_points
