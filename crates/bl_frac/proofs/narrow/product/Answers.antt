use Rattle.bl_frac.proofs.Signed.{word_product}
use Rattle.bl_frac.proofs.narrow.product.Goals as goal

pub returns-in-Ok-Ok : goal.returns-in-Ok-Ok
returns-in-Ok-Ok c =
    let p = c.in-Ok-Ok.ensures in
    let q = c.in-Ok-Ok.ensures' in
    word_product c.args.x c.args.y c.in-Ok-Ok.p c.in-Ok-Ok.q c.from.result c.from-in-Ok-Ok.result c.ranges.x c.ranges.y
    p q c.from.ensures c.from-in-Ok-Ok.ensures
