use Rattle.std.proofs.Common.{◌≡◌, ◌∙◌, rules, ap, sym}
use Rattle.std.specs.Prelude.{FitsSigned}
use Rattle.std.specs.Int.{w64}
use mir.Val.{to_z, of_z}
use Rattle.std.proofs.lemmas.Int.{to_z-of_z}
use Rattle.bl_plain.specs.Walk.{Best, AnswersAt}
use Rattle.bl_plain.proofs.BestLemmas.{offer-none, offer-dear, offer-taken}
use Rattle.bl_plain.proofs.WalkLemmas.{Varies-nothing}
use Rattle.bl_plain.proofs.best.offer.Goals as goal
use Rattle.bl_plain.proofs.best.offer.Goals.{else-follower_of-least-via-then-follower_of-least+else-meets_rows}
use Rattle.bl_plain.proofs.best.offer.Goals.{else-follower_of-least-via-else-follower_of-least}

pub returns-then-is_below-clause-best : goal.returns-then-is_below-clause-best
returns-then-is_below-clause-best c =
    let fits : FitsSigned w64 c.cost_of-cost.result = search rules in
    let cost = to_z-of_z w64 c.cost_of-cost.result fits ∙ c.cost_of-cost.ensures in
    let value = ap (λ (b : Best). b.cost) c.best.view_is in
    let follower-fits : FitsSigned w64 c.follower_of.result = search rules in
    let same : c.follower_of.result ≡ c.args.least =
    sym (to_z-of_z w64 c.follower_of.result follower-fits) ∙ ap (to_z w64) c.if-follower_of-least.true
    ∙ to_z-of_z w64 c.args.least c.ranges.least in
    let answers : AnswersAt c.args.model.now c.args.least c.args.z.now =
    record { rows = c.meets_rows.ensures.0 c.if-meets_rows.true; cost = sym c.follower_of.ensures ∙ same } in
    rw (c.copy_from_slice.ensures.items, cost)
    (offer-taken c.args.model.now c.args.z.now c.args.least c.args.best.now c.requires.point
    (Varies-nothing c.args.model.now c.args.z.now) answers
    (rw (← value) (rw cost at (c.is_below.ensures.0 c.if-is_below.true))))

pub returns-else-is_below-clause-best : goal.returns-else-is_below-clause-best
returns-else-is_below-clause-best c =
    let fits : FitsSigned w64 c.cost_of-cost.result = search rules in
    let cost = to_z-of_z w64 c.cost_of-cost.result fits ∙ c.cost_of-cost.ensures in
    let value = ap (λ (b : Best). b.cost) c.best.view_is in
    offer-dear c.args.model.now c.args.z.now c.args.least c.args.best.now
    (λ less. let yes = c.is_below.ensures.1 (rw (value, cost) less) in let no = c.if-is_below.false in cc)

pub returns-else-follower_of-least-clause-best : goal.returns-else-follower_of-least-clause-best
returns-else-follower_of-least-clause-best c =
    offer-none c.args.model.now c.args.z.now c.args.least c.args.best.now
    (λ answers.
    elim c.else-follower_of-least.branch [
      | else-follower_of-least-via-then-follower_of-least+else-meets_rows w ↦ let yes =
          w.meets_rows.ensures.1 answers.rows in let no = w.if-meets_rows.false in cc
      | else-follower_of-least-via-else-follower_of-least w ↦
          w.if-follower_of-least.false (ap (of_z w64) (c.follower_of.ensures ∙ answers.cost))
    ])
