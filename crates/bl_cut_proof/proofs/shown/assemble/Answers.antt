use Rattle.std.proofs.Common.{◌≡◌, ◌<◌, ◌^◌, map, length, sym, Some, arith}
use Rattle.std.specs.Arc.{arc_value}
use Rattle.std.proofs.lemmas.List.{length-map}
use Rattle.std.proofs.lemmas.Result.{err_from_is_err_and}
use Rattle.bl_cut_terms.specs.NoGoods.{tight_rows}
use Rattle.bl_cut_terms.specs.Adopting.{steps_of}
use Rattle.bl_cut_proof.specs.Proving.{local_rows}
use Rattle.bl_cut_proof.specs.Rows.{IsSized}
use Rattle.bl_cut_proof.proofs.ProveLemmas.{proved, cut_of_parts, own_step_of, sized_at, large_at}
use Rattle.bl_cut_proof.proofs.TakenCuts.{steps_lack_memory}
use Rattle.bl_cut_proof.proofs.shown.assemble.Goals as goal

pub make-requires : goal.make-requires
make-requires c =
    let p = arc_value c.args.model in
    let a = arc_value c.args.area in
    let rows = c.in-Some.field-0-0.items in
    let s : IsSized p a c.args.earlier c.args.parts rows c.in-Some.row =
    sized_at p c.deref.result.now a c.deref-2.result.now c.args.earlier c.args.parts rows c.in-Some.row
    c.deref.ensures c.deref-2.ensures (rw c.in-Some.is at c.in_ok-row.ensures.ok) in
    let steps = map arc_value c.in_ok-steps-in-Some.steps.items in
    let all : steps_of p a c.args.earlier c.args.parts ≡ Some steps = c.in_ok-steps-in-Some.ensures.ok p s.row_is in
    let few : length steps < 2 ^ 32 =
    let l = length-map c.in_ok-steps-in-Some.steps.items arc_value in
    omega (arith, c.in_ok-steps-in-Some.ensures.few) in
    proved p a c.args.earlier c.args.parts rows (tight_rows p a (local_rows c.args.earlier) c.args.parts.tight)
    c.in-Some.row steps c.requires.within s (sym s.rows_are) c.requires.shown.shown all few

pub returns-in_ok-steps-in-Some-clause-cut : goal.returns-in_ok-steps-in-Some-clause-cut
returns-in_ok-steps-in-Some-clause-cut c =
    let p = arc_value c.args.model in
    let a = arc_value c.args.area in
    let rows = c.in-Some.field-0-0.items in
    let s : IsSized p a c.args.earlier c.args.parts rows c.in-Some.row =
    sized_at p c.deref.result.now a c.deref-2.result.now c.args.earlier c.args.parts rows c.in-Some.row
    c.deref.ensures c.deref-2.ensures (rw c.in-Some.is at c.in_ok-row.ensures.ok) in
    let steps = map arc_value c.in_ok-steps-in-Some.steps.items in
    let all : steps_of p a c.args.earlier c.args.parts ≡ Some steps = c.in_ok-steps-in-Some.ensures.ok p s.row_is in
    cut_of_parts p a c.args.earlier c.args.parts rows (tight_rows p a (local_rows c.args.earlier) c.args.parts.tight)
    c.in-Some.row steps c.make.result s (sym s.rows_are) c.requires.shown.shown all c.make.ensures

pub returns-in_ok-steps-in-Some-clause-own : goal.returns-in_ok-steps-in-Some-clause-own
returns-in_ok-steps-in-Some-clause-own c =
    let p = arc_value c.args.model in
    let a = arc_value c.args.area in
    let rows = c.in-Some.field-0-0.items in
    let s : IsSized p a c.args.earlier c.args.parts rows c.in-Some.row =
    sized_at p c.deref.result.now a c.deref-2.result.now c.args.earlier c.args.parts rows c.in-Some.row
    c.deref.ensures c.deref-2.ensures (rw c.in-Some.is at c.in_ok-row.ensures.ok) in
    let steps = map arc_value c.in_ok-steps-in-Some.steps.items in
    let all : steps_of p a c.args.earlier c.args.parts ≡ Some steps = c.in_ok-steps-in-Some.ensures.ok p s.row_is in
    own_step_of p a c.args.earlier c.args.parts rows (tight_rows p a (local_rows c.args.earlier) c.args.parts.tight)
    c.in-Some.row steps c.make.result c.requires.within s (sym s.rows_are) c.requires.shown.shown all c.make.ensures

pub returns-in-None-clause-cut : goal.returns-in-None-clause-cut
returns-in-None-clause-cut c =
    large_at (arc_value c.args.model) c.deref.result.now (arc_value c.args.area) c.deref-2.result.now c.args.earlier
    c.args.parts.tight c.deref.ensures c.deref-2.ensures (rw c.in-None.is at c.in_ok-row.ensures.ok)

pub returns-in_err-steps-in-Some-clause-err : goal.returns-in_err-steps-in-Some-clause-err
returns-in_err-steps-in-Some-clause-err c =
    let p = arc_value c.args.model in
    let a = arc_value c.args.area in
    let rows = c.in-Some.field-0-0.items in
    let s : IsSized p a c.args.earlier c.args.parts rows c.in-Some.row =
    sized_at p c.deref.result.now a c.deref-2.result.now c.args.earlier c.args.parts rows c.in-Some.row
    c.deref.ensures c.deref-2.ensures (rw c.in-Some.is at c.in_ok-row.ensures.ok) in
    let e = err_from_is_err_and c.from_residual-in_err-steps-in-Some.result
    c.from_residual-in_err-steps-in-Some.ensures.1 in
    rw (e.1, e.2) (steps_lack_memory p a c.args.earlier c.args.parts rows c.in-Some.row s c.requires.shown.shown
    c.requires.square c.in_err-steps-in-Some.field-0.0 c.in_err-steps-in-Some.ensures.err)
