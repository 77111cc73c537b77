use Rattle.std.proofs.Common.{rules}
use Rattle.std.specs.Int.{w64}
use mir.Val.{SFits}
use Rattle.std.proofs.lemmas.Int.{to_z-of_z}
use Rattle.bl_plain.proofs.WalkLemmas.{In-varies, Varies-trans}
use Rattle.bl_plain.proofs.BestLemmas.{follower-below}
use Rattle.bl_plain.proofs.FollowerLemmas.{follower_found, follower_absent}
use Rattle.bl_plain.proofs.leader.try_follower.Goals as goal

pub least_cost-requires-clause-columns : goal.least_cost-requires-clause-columns
least_cost-requires-clause-columns c =
    rw c.follower-columns.ensures.follower (follower-below c.args.model.now c.follower-columns.ensures.model)

pub try_responses-requires-clause-point : goal.try_responses-requires-clause-point
try_responses-requires-clause-point c =
    In-varies c.args.model.now _ c.args.z.now c.least_cost.new.z c.requires.point c.least_cost.ensures.point

pub try_responses-requires-clause-columns : goal.try_responses-requires-clause-columns
try_responses-requires-clause-columns c =
    rw c.follower-columns.ensures.follower (follower-below c.args.model.now c.follower-columns.ensures.model)

pub returns-in-Some-clause-best : goal.returns-in-Some-clause-best
returns-in-Some-clause-best c =
    let p = c.args.model.now in
    let columns = c.follower-columns.ensures.follower in
    let fits : SFits w64 c.in-Some.least = search rules in
    let least = rw columns at c.in-Some.ensures.least in
    let moved = rw columns at c.least_cost.ensures.point in
    let best = rw (columns, to_z-of_z w64 c.in-Some.least fits) at c.try_responses.ensures.best in
    follower_found p c.args.z.now c.least_cost.new.z c.in-Some.least c.args.best.now c.try_responses.new.best
    c.follower-columns.ensures.model c.requires.point least moved best

pub returns-in-Some-clause-point : goal.returns-in-Some-clause-point
returns-in-Some-clause-point c =
    rw c.follower-columns.ensures.follower at
    (Varies-trans c.args.model.now c.follower-columns.result.now c.args.z.now c.least_cost.new.z c.try_responses.new.z
    c.least_cost.ensures.point c.try_responses.ensures.point)

pub returns-in_default-clause-best : goal.returns-in_default-clause-best
returns-in_default-clause-best c =
    follower_absent c.args.model.now c.args.z.now c.args.best.now
    (rw c.follower-columns.ensures.follower at c.in_default.ensures.least)
