use Rattle.std.proofs.Common.{rules, ◌≡◌, ◌+◌, ◌<◌, ◌∙◌, subst, sym, length, arith}
use Rattle.std.specs.Prelude.{reverse, drop, All}
use Rattle.std.proofs.lemmas.Bool.{false≢true}
use Rattle.std.proofs.lemmas.List.{length-map, length-reverse}
use Rattle.bl_terms.specs.Points.{Area}
use Rattle.bl_fproof.specs.Steps.{node_of, nodes_of}
use Rattle.bl_fproof.specs.Entries.{FailsToClose}
use Rattle.bl_fproof.specs.Stacks.{IsPart, IsStepTaken}
use Rattle.bl_fproof.proofs.Walks.{IsWalked, node_first, walk_fails, walk_goes_on, walk_ends_early}
use Rattle.bl_fproof.proofs.walk.first_failing_step.Goals as goal

pub returns-then-not-branch : goal.returns-then-not-branch
returns-then-not-branch c =
    let i = c.loop-place.place in
    let step = c.index-steps-place.result in
    let e = node_first c.args.steps.now i step c.loop-place-test.true c.index-steps-place.is in
    let taken = c.in_ok-take_step.ensures in
    walk_fails c.args.rows.now c.args.cutoff (nodes_of c.args.steps.now) i (node_of step)
    (reverse c.loop-place.stack.items) c.loop-place.invariant.walked e
    (λ stands. false≢true (sym c.if-not-branch.true ∙ taken.verdict.1 stands))

pub loop-place-preserved : goal.loop-place-preserved
loop-place-preserved c =
    let i = c.loop-place.place in
    let step = c.index-steps-place.result in
    let e = node_first c.args.steps.now i step c.loop-place-test.true c.index-steps-place.is in
    let taken = c.in_ok-take_step.ensures in
    let true_ = c.if-not-branch.false in
    record {
      walked = subst (λ s. IsWalked c.args.rows.now c.args.cutoff (nodes_of c.args.steps.now) (i + 1) s)
          (sym (taken.after true_))
          (walk_goes_on c.args.rows.now c.args.cutoff (nodes_of c.args.steps.now) i (node_of step)
          (reverse c.loop-place.stack.items) c.loop-place.invariant.walked e (taken.verdict.0 true_));
      parts = taken.parts true_;
    }

pub returns : goal.returns
returns c =
    let i = c.loop-place.place in
    let at : i ≡ length c.args.steps.now = search rules in
    let size = length-map c.args.steps.now node_of in
    let some : 0 < length c.loop-place.stack.items = search rules in
    let reversed = length-reverse c.loop-place.stack.items in
    subst (λ n. FailsToClose c.args.rows.now c.args.cutoff (nodes_of c.args.steps.now) n) at
    (walk_ends_early c.args.rows.now c.args.cutoff (nodes_of c.args.steps.now) i (reverse c.loop-place.stack.items)
    c.loop-place.invariant.walked (at ∙ sym size) (omega arith))
