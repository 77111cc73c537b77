use Rattle.std.proofs.Common.{◌≡◌, ◌<◌, sym, map, length, List, ℕ, Some, arith, subst}
use Rattle.std.specs.Arc.{arc_value}
use Rattle.std.proofs.lemmas.Result.{err_from_is_err_and}
use Rattle.bl_cut.specs.Cuts.{cut_at}
use Rattle.bl_cut_terms.specs.Adopting.{Adopted}
use Rattle.bl_cut_proof.specs.Rows.{over_cut}
use Rattle.bl_cut_proof.proofs.CodeLemmas.{cuts_more, cuts_stop, size_fault}
use Rattle.bl_cut_proof.proofs.steps.adopt_cuts.Goals as goal

pub loop-cut-preserved : goal.loop-cut-preserved
loop-cut-preserved c =
    let a : Adopted = record { steps = map arc_value c.loop-cut.steps.items; places = c.loop-cut.places.items } in
    let b : Adopted =
    record { steps = map arc_value c.adopt_where_used.new.steps.items; places = c.push.new.list.items } in
    let below : c.loop-cut.cut < length c.args.earlier.now =
    omega (arith, c.loop-cut-test.true, c.count-cut-end.ensures.value) in
    let over : over_cut c.args.tight.now c.loop-cut.cut (cut_at c.args.earlier.now c.loop-cut.cut) a ≡ Some b =
    subst (λ (ps : List ℕ). over_cut c.args.tight.now c.loop-cut.cut (cut_at c.args.earlier.now c.loop-cut.cut) a
    ≡ Some (record { steps = map arc_value c.adopt_where_used.new.steps.items; places = ps }))
    (sym c.in_ok-push.ensures) (c.in_ok-place.ensures.ok c.loop-cut.places.items) in
    cuts_more _ c.args.tight.now c.args.earlier.now c.loop-cut.cut a b below c.loop-cut.invariant over

pub returns-in_err-place-clause-err : goal.returns-in_err-place-clause-err
returns-in_err-place-clause-err c =
    let a : Adopted = record { steps = map arc_value c.loop-cut.steps.items; places = c.loop-cut.places.items } in
    let below : c.loop-cut.cut < length c.args.earlier.now =
    omega (arith, c.loop-cut-test.true, c.count-cut-end.ensures.value) in
    let p = err_from_is_err_and c.from_residual.result c.from_residual.ensures.1 in
    rw (p.1, p.2) (size_fault c.in_err-place.field-0.0
    (λ none. cuts_stop _ c.args.tight.now c.args.earlier.now c.loop-cut.cut a below c.loop-cut.invariant
    (none c.loop-cut.places.items)) c.in_err-place.ensures.err)
