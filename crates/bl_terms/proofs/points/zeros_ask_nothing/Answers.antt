use Rattle.bl_terms.proofs.PointLemmas.{zeros_ask_nothing}
use Rattle.bl_terms.proofs.points.zeros_ask_nothing.Goals as goal

pub returns : goal.returns
returns c = zeros_ask_nothing
