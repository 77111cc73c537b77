use Rattle.std.proofs.Common.{rules}
use Rattle.bl_certline.proofs.Numbers.{number_of-plain}
use Rattle.bl_certline.proofs.fields.number_of.Goals as goal

pub returns : goal.returns
returns c =
    let plain = c.plain_number.ensures in
    number_of-plain c.args.field.now c.plain_number.result (search rules) plain.some plain.none
