use Rattle.std.proofs.Common.{◌≡◌, ◌/◌, ◌<◌, sym, subst}
use Rattle.bl_licence.proofs.Multiples.{den_read, share_positive}
use Rattle.bl_licence.proofs.common.whole_multiple.Goals as goal

pub product_within_limit-requires-clause-positive : goal.product_within_limit-requires-clause-positive
product_within_limit-requires-clause-positive c =
    let e = den_read c.parts-num.result c.args.fraction.num c.args.fraction.den c.unsigned_abs.result
    c.parts-num.ensures.lowest_terms.den_narrow c.parts-num.ensures.value c.unsigned_abs.ensures.value in
    subst (λ d. 0 < c.args.common / d) (sym e)
    (share_positive c.args.common c.args.fraction.den c.requires.positive
    c.parts-num.ensures.lowest_terms.den_positive c.requires.multiple)
