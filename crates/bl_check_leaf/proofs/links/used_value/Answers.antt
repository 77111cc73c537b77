use Rattle.bl_check_leaf.proofs.LeafRules.{used_is}
use Rattle.bl_check_leaf.proofs.links.used_value.Goals as goal

pub returns : goal.returns
returns c =
    used_is c.args.model.now c.args.said.now c.args.area.now c.args.value_row c.in_ok-answer.answer c.unwrap_or.result
    c.if-not-value_row.false c.in_ok-answer.ensures c.unwrap_or.ensures
