use Rattle.bl_cut_terms.proofs.NoGoodLemmas.{valid_on_parts}
use Rattle.bl_cut_terms.proofs.laws.valid_on_parts.Goals as goal

pub returns : goal.returns
returns c = valid_on_parts
