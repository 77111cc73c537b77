use Rattle.bl_cut_terms.proofs.NoGoodLemmas.{no_goods_law}
use Rattle.bl_cut_terms.proofs.laws.no_goods_law.Goals as goal

pub returns : goal.returns
returns c = no_goods_law
