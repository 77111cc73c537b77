use Rattle.bl_terms.proofs.TreeLemmas.{covers_or_fails}
use Rattle.bl_terms.proofs.trees.covers_or_fails.Goals as goal

pub returns : goal.returns
returns g c = covers_or_fails
