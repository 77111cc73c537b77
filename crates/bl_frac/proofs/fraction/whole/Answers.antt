use Rattle.bl_frac.proofs.LowestTerms.{IsReduced-whole}
use Rattle.bl_frac.proofs.Signed.{word_narrow}
use Rattle.bl_frac.proofs.fraction.whole.Goals as goal

pub invariant_of-result : goal.invariant_of-result
invariant_of-result c = IsReduced-whole _ (word_narrow c.args.n c.from.result c.ranges.n c.from.ensures)
