use Rattle.bl_certline.proofs.Numbers.{finds_number}
use Rattle.bl_certline.proofs.fields.whole_field.Goals as goal

pub returns : goal.returns
returns c = finds_number c.args.field.now _ c.number_of.ensures
