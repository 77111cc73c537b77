use Rattle.std.proofs.Common.{◌∙◌, sym}
use Rattle.bl_cut_proof.proofs.CodeLemmas.{shared_found, shared_next}
use Rattle.std.proofs.lemmas.Bool.{true≢false}
use Rattle.bl_cut_proof.proofs.steps.place_in.Goals as goal

pub returns-then-same_step : goal.returns-then-same_step
returns-then-same_step c =
    shared_found c.args.steps.now c.args.step.now c.loop-place.place c.index-steps-place.result c.loop-place-test.true
    c.loop-place.invariant c.index-steps-place.is (sym c.deref.ensures ∙ c.same_step.ensures.0 c.if-same_step.true)

pub loop-place-preserved : goal.loop-place-preserved
loop-place-preserved c =
    shared_next c.args.steps.now c.args.step.now c.loop-place.place c.index-steps-place.result c.loop-place-test.true
    c.loop-place.invariant c.index-steps-place.is
    (λ e. true≢false (sym (c.same_step.ensures.1 (c.deref.ensures ∙ e)) ∙ c.if-same_step.false))
