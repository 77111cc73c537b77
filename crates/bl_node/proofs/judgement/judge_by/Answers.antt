use Rattle.std.proofs.Common.{sym, subst, ap, ◌∙◌, arith, rules}
use Rattle.std.specs.Prelude.{◌≤ℤ◌, ◌<ℤ◌, FitsSigned, option_map}
use Rattle.std.specs.Arc.{arc_value}
use Rattle.std.specs.Int.{w64}
use Rattle.std.proofs.lemmas.Int.{ints, to_z-of_z}
use Rattle.bl_terms.specs.Points.{InArea}
use Rattle.bl_terms.specs.Programs.{Program, root, cost_at, follower_at}
use Rattle.bl_terms.proofs.PointLemmas.{point_of_part}
use Rattle.bl_fproof.specs.Entries.{Admitted}
use Rattle.bl_fproof.specs.Steps.{entry_of}
use Rattle.bl_node.specs.Works.{job_of}
use Rattle.bl_node.specs.Standing.{cutoff_with}
use Rattle.bl_node.proofs.Points.{answered_at, judged_incumbent, judged_bettered, below_by, not_below}
use Rattle.bl_node.proofs.judgement.judge_by.Goals as goal

pub unreachable-requires : goal.unreachable-requires
unreachable-requires c =
    let answered = c.answered.ensures.value ∙ ap (λ (e : Admitted). e.answered) c.entry.ensures in
    answered_at (arc_value c.args.task.now.model) c.args.point.now c.args.kept.now
    (point_of_part c.requires.job.job.within c.requires.inside) c.requires.rows c.requires.entry
    (ap entry_of (sym answered ∙ c.in_default.is))

pub cost_of-cost-requires : goal.cost_of-cost-requires
cost_of-cost-requires c =
    subst (λ (p : Program). InArea (root p) c.args.point.now) (sym c.deref.ensures)
    (point_of_part c.requires.job.job.within c.requires.inside)

pub take-requires-clause-incumbent : goal.take-requires-clause-incumbent
take-requires-clause-incumbent c =
    let p = arc_value c.args.task.now.model in
    let z = c.args.point.now in
    let answered = c.answered.ensures.value ∙ ap (λ (e : Admitted). e.answered) c.entry.ensures in
    let fits : FitsSigned w64 c.in-Best.value = search rules in
    let fits_point : FitsSigned w64 c.follower_of.result = search rules in
    let test = rw (to_z-of_z w64 _ fits_point, to_z-of_z w64 _ fits) at c.if-follower_of-value.true in
    let cost = c.follower_of.ensures ∙ ap (λ (p : Program). follower_at p z) c.deref-2.ensures in
    let low : follower_at p z ≤ℤ c.in-Best.value = omega (arith, ints) in
    judged_incumbent p z c.in_ok-point.point.items c.args.kept.now c.in_ok-copy.field-0 c.in-Best.response
    c.in-Best.value (point_of_part c.requires.job.job.within c.requires.inside) c.requires.rows c.requires.entry
    (ap entry_of (sym answered ∙ c.in-Best.is)) low c.in_ok-point.ensures.items c.in_ok-copy.ensures

pub returns-then-not-is_below-clause-judged : goal.returns-then-not-is_below-clause-judged
returns-then-not-is_below-clause-judged c =
    let p = arc_value c.args.task.now.model in
    let z = c.args.point.now in
    let fits : FitsSigned w64 c.cost_of-cost.result = search rules in
    not_below c.is_below.result c.cutoff.result
    (cutoff_with (job_of c.args.task.now) (option_map arc_value c.try_point.new.found)) c.cost_of-cost.result
    (cost_at p z) (rw (to_z-of_z w64 _ fits) at c.is_below.ensures) c.if-not-is_below.true c.cutoff.ensures
    (c.cost_of-cost.ensures ∙ ap (λ (p : Program). cost_at p z) c.deref.ensures)

pub returns-clause-judged : goal.returns-clause-judged
returns-clause-judged c =
    let j = job_of c.args.task.now in
    let p = arc_value c.args.task.now.model in
    let z = c.args.point.now in
    let u = cutoff_with j (option_map arc_value c.try_point.new.found) in
    let answered = c.answered.ensures.value ∙ ap (λ (e : Admitted). e.answered) c.entry.ensures in
    let fits : FitsSigned w64 c.in-Best.value = search rules in
    let fits_point : FitsSigned w64 c.follower_of.result = search rules in
    let fits_cost : FitsSigned w64 c.cost_of-cost.result = search rules in
    let test = rw (to_z-of_z w64 _ fits_point, to_z-of_z w64 _ fits) at c.if-follower_of-value.false in
    let cost = c.follower_of.ensures ∙ ap (λ (p : Program). follower_at p z) c.deref-2.ensures in
    let more : c.in-Best.value <ℤ follower_at p z = omega (arith, ints) in
    let less = below_by c.is_below.result c.cutoff.result u c.cost_of-cost.result (cost_at p z)
    (rw (to_z-of_z w64 _ fits_cost) at c.is_below.ensures) c.if-not-is_below.false c.cutoff.ensures
    (c.cost_of-cost.ensures ∙ ap (λ (p : Program). cost_at p z) c.deref.ensures) in
    judged_bettered p j.area u z c.in-Best.response c.new.result c.args.kept.now c.in-Best.value c.requires.inside
    c.requires.rows less c.requires.entry (ap entry_of (sym answered ∙ c.in-Best.is)) more
    (c.new.ensures ∙ c.in_ok-response.ensures.items ∙ c.as_slice-2.ensures)
