use Rattle.std.proofs.lemmas.Result.{IfOk-weaker}
use Rattle.bl_check_leaf.proofs.LeafRules.{follower_is}
use Rattle.bl_check_leaf.proofs.links.has_follower.Goals as goal

pub returns-in-Optimal : goal.returns-in-Optimal
returns-in-Optimal c =
    IfOk-weaker c.costs_the_least.result _ _
    (λ has h. λ cert is.
    follower_is c.args.model.now c.args.said.now cert c.in-Optimal.point c.in-Optimal.value c.as_slice.result.now has
    c.in-Optimal.is c.as_slice.ensures h is)
    c.costs_the_least.ensures
