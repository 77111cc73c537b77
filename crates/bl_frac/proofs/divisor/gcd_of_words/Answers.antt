use Rattle.std.proofs.Common.{sym, ◌∙◌}
use Rattle.bl_frac.proofs.GcdLaws.{gcd-mod, gcd-zero}
use Rattle.bl_frac.proofs.divisor.gcd_of_words.Goals as goal

pub loop-less-preserved : goal.loop-less-preserved
loop-less-preserved c = sym (gcd-mod c.loop-less.greater c.loop-less.less) ∙ c.loop-less.invariant

pub returns : goal.returns
returns c =
    let e = gcd-zero c.loop-less.greater in
    cc
