use Rattle.std.proofs.Common.{◌≡◌, ◌∙◌, ap, length}
use Rattle.bl_fproof.proofs.Problems.{follower_places, whole_fits}
use Rattle.bl_fproof.proofs.rows.FollowerRows.make.Goals as goal

pub picked-requires : goal.picked-requires
picked-requires c =
    let model = c.follower-columns.ensures.model in
    rw (c.follower-columns.ensures.follower)
    (follower_places c.args.model.now c.follower_cost.result.now model
    (ap length c.follower_cost.ensures.follower_cost ∙ model.sound.follower_cost_columns))

pub picked-requires-2 : goal.picked-requires-2
picked-requires-2 c =
    rw (c.follower-columns.ensures.follower)
    (follower_places c.args.model.now c.lo.result.now c.follower-columns.ensures.model (ap length c.lo.ensures.lo))

pub picked-requires-3 : goal.picked-requires-3
picked-requires-3 c =
    let model = c.follower-columns.ensures.model in
    rw (c.follower-columns.ensures.follower)
    (follower_places c.args.model.now c.hi.result.now model (ap length c.hi.ensures.hi ∙ model.sound.box.sides))

pub invariant_of-result : goal.invariant_of-result
invariant_of-result c =
    let model = c.follower-columns.ensures.model in
    let fits = whole_fits c.args.model.now c.args.link.now model c.requires in
    let columns = c.follower-columns.ensures.follower in
    rw (
      c.in_ok-rows.ensures,
      c.in_ok-cost.ensures,
      c.in_ok-lo.ensures,
      c.in_ok-hi.ensures,
      columns,
      c.follower_cost.ensures.follower_cost,
      c.lo.ensures.lo,
      c.hi.ensures.hi,
    ) fits
