use Rattle.bl_check_leaf.proofs.LeafRules.{unanswered_is}
use Rattle.bl_check_leaf.proofs.links.is_unanswered.Goals as goal

pub returns : goal.returns
returns c =
    λ cert is.
    unanswered_is c.args.model.now c.args.said.now cert c.args.area.now c.in_ok-answer.answer c.eq.result c.eq.ensures
    c.in_ok-answer.ensures is
