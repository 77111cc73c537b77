use Rattle.std.proofs.Common.{◌∙◌, ap, sym, subst, length}
use Rattle.bl_terms.specs.Points.{Area, IsArea, IsWithinArea}
use Rattle.bl_check_terms.specs.Values.{followers_area}
use Rattle.bl_fproof.proofs.Problems.{follower_places}
use Rattle.bl_check_rules.proofs.EntryRules.{box_of, followers-part, on-followers, over-is, picked-is}
use Rattle.bl_check_rules.proofs.entries.is_proof_over.Goals as goal

pub values_at-requires : goal.values_at-requires
values_at-requires c =
    rw (c.follower.ensures.follower)
    (follower_places c.args.model.now c.lo.result.now c.follower.ensures.model
    (ap length c.lo.ensures.value ∙ c.requires.part.within.columns))

pub values_at-requires-2 : goal.values_at-requires-2
values_at-requires-2 c =
    rw (c.follower-2.ensures.follower)
    (follower_places c.args.model.now c.hi.result.now c.follower-2.ensures.model
    (ap length c.hi.ensures.value ∙ c.requires.part.area.sides ∙ c.requires.part.within.columns))

pub problem-requires-clause-area : goal.problem-requires-clause-area
problem-requires-clause-area c =
    let p = c.args.model.now in
    let a = c.args.area.now in
    let lo = picked-is p c.deref.result.now c.lo.result.now a.lo c.follower.result.now
    (c.deref.ensures.value ∙ c.in_ok-lo.ensures) c.follower.ensures.follower c.lo.ensures.value in
    let hi = picked-is p c.deref-2.result.now c.hi.result.now a.hi c.follower-2.result.now
    (c.deref-2.ensures.value ∙ c.in_ok-hi.ensures) c.follower-2.ensures.follower c.hi.ensures.value in
    subst IsArea (sym (on-followers p a c.deref.result.now c.deref-2.result.now lo hi))
    (followers-part p a c.follower.ensures.model.sound c.requires.part).0

pub problem-requires-clause-within : goal.problem-requires-clause-within
problem-requires-clause-within c =
    let p = c.args.model.now in
    let a = c.args.area.now in
    let lo = picked-is p c.deref.result.now c.lo.result.now a.lo c.follower.result.now
    (c.deref.ensures.value ∙ c.in_ok-lo.ensures) c.follower.ensures.follower c.lo.ensures.value in
    let hi = picked-is p c.deref-2.result.now c.hi.result.now a.hi c.follower-2.result.now
    (c.deref-2.ensures.value ∙ c.in_ok-hi.ensures) c.follower-2.ensures.follower c.hi.ensures.value in
    subst (λ (b : Area). IsWithinArea b c.args.rows.now.area)
    (sym (on-followers p a c.deref.result.now c.deref-2.result.now lo hi))
    (subst (λ (b : Area). IsWithinArea (followers_area p a) b) (sym c.requires.rows)
    (followers-part p a c.follower.ensures.model.sound c.requires.part).1)

pub returns : goal.returns
returns c =
    let p = c.args.model.now in
    let a = c.args.area.now in
    let lo = picked-is p c.deref.result.now c.lo.result.now a.lo c.follower.result.now
    (c.deref.ensures.value ∙ c.in_ok-lo.ensures) c.follower.ensures.follower c.lo.ensures.value in
    let hi = picked-is p c.deref-2.result.now c.hi.result.now a.hi c.follower-2.result.now
    (c.deref-2.ensures.value ∙ c.in_ok-hi.ensures) c.follower-2.ensures.follower c.hi.ensures.value in
    over-is c.args.rows.now c.in_ok-problem.problem (box_of c.deref.result.now c.deref-2.result.now)
    (followers_area p a) c.args.value c.args.proof.now c.holds.result c.in_ok-problem.ensures.value
    (on-followers p a c.deref.result.now c.deref-2.result.now lo hi) c.holds.ensures
