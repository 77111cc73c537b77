use Rattle.bl_cut_terms.proofs.NoGoodLemmas.{no_good_law}
use Rattle.bl_cut_terms.proofs.laws.no_good_law.Goals as goal

pub returns : goal.returns
returns c = no_good_law
