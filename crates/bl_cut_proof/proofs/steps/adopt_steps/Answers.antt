use Rattle.std.proofs.Common.{map}
use Rattle.std.specs.Arc.{arc_value}
use Rattle.std.proofs.lemmas.Result.{err_from_is_err_and}
use Rattle.bl_cut_proof.proofs.CodeLemmas.{adopt_more, adopt_stops, size_fault}
use Rattle.bl_cut_proof.proofs.steps.adopt_steps.Goals as goal

pub returns-in_err-place-clause-err : goal.returns-in_err-place-clause-err
returns-in_err-place-clause-err c =
    let p = err_from_is_err_and c.from_residual-in_err-place.result c.from_residual-in_err-place.ensures.1 in
    rw (p.1, p.2) (size_fault c.in_err-place.field-0.0
    (λ order. adopt_stops _
    (record { steps = map arc_value c.loop-step.steps.items; places = c.loop-step.places.items }) c.args.taken.now
    c.loop-step.step-index c.step-item.result _ c.loop-step-test.true c.loop-step.invariant c.step-item.is
    c.deref.ensures.value order)
    c.in_err-place.ensures.err)

pub loop-step-preserved : goal.loop-step-preserved
loop-step-preserved c =
    adopt_more _ (record { steps = map arc_value c.loop-step.steps.items; places = c.loop-step.places.items })
    (record { steps = map arc_value c.adopt_step.new.steps.items; places = c.push.new.list.items }) c.args.taken.now
    c.loop-step.step-index c.step-item.result _ c.in_ok-place.place c.loop-step-test.true c.loop-step.invariant
    c.step-item.is c.deref.ensures.value c.in_ok-place.ensures.order c.in_ok-place.ensures.place
    c.in_ok-place.ensures.steps c.in_ok-push.ensures
