use Rattle.bl_certline.proofs.Pairs.{finds_pair}
use Rattle.bl_certline.proofs.fields.pair_field.Goals as goal

pub returns : goal.returns
returns c = finds_pair c.args.field.now _ c.pair_of.ensures
