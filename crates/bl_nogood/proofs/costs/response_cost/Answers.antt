use Rattle.std.proofs.Common.{◌∙◌, ap, length}
use Rattle.bl_fproof.proofs.Problems.{follower_places, follower_few}
use Rattle.bl_nogood.proofs.costs.response_cost.Goals as goal

pub cost_at-requires-clause-columns : goal.cost_at-requires-clause-columns
cost_at-requires-clause-columns c =
    let model = c.follower.ensures.model in
    rw (c.follower.ensures.follower)
    (follower_places c.args.model.now c.follower_cost.result.now model
    (ap length c.follower_cost.ensures.follower_cost ∙ model.sound.follower_cost_columns))

pub cost_at-requires-clause-few : goal.cost_at-requires-clause-few
cost_at-requires-clause-few c =
    rw (c.follower.ensures.follower) (follower_few c.args.model.now c.follower.ensures.model)
