use Rattle.std.proofs.Common.{◌≡◌, ◌<◌, ◌^◌, map, length, Some, arith}
use Rattle.std.specs.Arc.{arc_value}
use Rattle.std.proofs.lemmas.Result.{err_from_is_err_and}
use Rattle.std.proofs.lemmas.List.{length-map}
use Rattle.bl_cut_terms.specs.Adopting.{steps_of}
use Rattle.bl_cut_proof.specs.Faults.{AreShown}
use Rattle.bl_cut_proof.specs.Rows.{IsSized}
use Rattle.bl_cut_proof.proofs.ProveLemmas.{proved, cut_of_parts, own_step_of, rows_fault, sized_at, shown_at, fault_at}
use Rattle.bl_cut_proof.proofs.prove.prove_cut.Goals as goal

pub returns-in_err-test_shown-clause-err : goal.returns-in_err-test_shown-clause-err
returns-in_err-test_shown-clause-err c =
    let p = arc_value c.args.model in
    let a = arc_value c.args.area in
    let rows = c.in_ok-rows.rows.items in
    let s : IsSized p a c.args.earlier c.args.parts rows c.in_ok-rows.row =
    sized_at p c.deref.result.now a c.deref-2.result.now c.args.earlier c.args.parts rows c.in_ok-rows.row
    c.deref.ensures c.deref-2.ensures c.in_ok-rows.ensures.ok in
    let steps = map arc_value c.in_ok-steps.steps.items in
    let all : steps_of p a c.args.earlier c.args.parts ≡ Some steps = c.in_ok-steps.ensures.ok p s.row_is in
    let fault = fault_at p c.deref-3.result.now c.deref-4.result.now c.args.parts c.in_err-test_shown.field-0.0
    c.deref-3.ensures c.in_err-test_shown.ensures.err in
    let e = err_from_is_err_and c.from_residual-in_err-test_shown.result
    c.from_residual-in_err-test_shown.ensures.1 in
    rw (e.1, e.2) (rows_fault p a c.args.earlier c.args.parts rows c.deref-4.result.now c.in_ok-rows.row steps s
    c.deref-4.ensures.value all c.in_err-test_shown.field-0.0 fault)

pub make-requires : goal.make-requires
make-requires c =
    let p = arc_value c.args.model in
    let a = arc_value c.args.area in
    let rows = c.in_ok-rows.rows.items in
    let s : IsSized p a c.args.earlier c.args.parts rows c.in_ok-rows.row =
    sized_at p c.deref.result.now a c.deref-2.result.now c.args.earlier c.args.parts rows c.in_ok-rows.row
    c.deref.ensures c.deref-2.ensures c.in_ok-rows.ensures.ok in
    let steps = map arc_value c.in_ok-steps.steps.items in
    let all : steps_of p a c.args.earlier c.args.parts ≡ Some steps = c.in_ok-steps.ensures.ok p s.row_is in
    let shown : AreShown p c.deref-4.result.now c.args.parts =
    shown_at p c.deref-3.result.now c.deref-4.result.now c.args.parts c.deref-3.ensures c.in_ok-test_shown.ensures.ok in
    let few : length steps < 2 ^ 32 =
    let l = length-map c.in_ok-steps.steps.items arc_value in omega (arith, c.in_ok-steps.ensures.few) in
    proved p a c.args.earlier c.args.parts rows c.deref-4.result.now c.in_ok-rows.row steps c.requires s
    c.deref-4.ensures.value shown all few

pub returns-clause-ok : goal.returns-clause-ok
returns-clause-ok c =
    let p = arc_value c.args.model in
    let a = arc_value c.args.area in
    let rows = c.in_ok-rows.rows.items in
    let s : IsSized p a c.args.earlier c.args.parts rows c.in_ok-rows.row =
    sized_at p c.deref.result.now a c.deref-2.result.now c.args.earlier c.args.parts rows c.in_ok-rows.row
    c.deref.ensures c.deref-2.ensures c.in_ok-rows.ensures.ok in
    let steps = map arc_value c.in_ok-steps.steps.items in
    let all : steps_of p a c.args.earlier c.args.parts ≡ Some steps = c.in_ok-steps.ensures.ok p s.row_is in
    let shown : AreShown p c.deref-4.result.now c.args.parts =
    shown_at p c.deref-3.result.now c.deref-4.result.now c.args.parts c.deref-3.ensures c.in_ok-test_shown.ensures.ok in
    cut_of_parts p a c.args.earlier c.args.parts rows c.deref-4.result.now c.in_ok-rows.row steps c.make.result s
    c.deref-4.ensures.value shown all c.make.ensures

pub returns-clause-own : goal.returns-clause-own
returns-clause-own c =
    let p = arc_value c.args.model in
    let a = arc_value c.args.area in
    let rows = c.in_ok-rows.rows.items in
    let s : IsSized p a c.args.earlier c.args.parts rows c.in_ok-rows.row =
    sized_at p c.deref.result.now a c.deref-2.result.now c.args.earlier c.args.parts rows c.in_ok-rows.row
    c.deref.ensures c.deref-2.ensures c.in_ok-rows.ensures.ok in
    let steps = map arc_value c.in_ok-steps.steps.items in
    let all : steps_of p a c.args.earlier c.args.parts ≡ Some steps = c.in_ok-steps.ensures.ok p s.row_is in
    let shown : AreShown p c.deref-4.result.now c.args.parts =
    shown_at p c.deref-3.result.now c.deref-4.result.now c.args.parts c.deref-3.ensures c.in_ok-test_shown.ensures.ok in
    own_step_of p a c.args.earlier c.args.parts rows c.deref-4.result.now c.in_ok-rows.row steps c.make.result
    c.requires s c.deref-4.ensures.value shown all c.make.ensures
