use Rattle.std.proofs.Common.{rules, ◌≡◌, ◌∙◌, sym, ap, subst, map, List, [], ℕ, Some}
use Rattle.std.specs.Arc.{arc_value}
use Rattle.bl_cut_terms.specs.declared.parts.Tight.{Tight}
use Rattle.bl_cut_terms.specs.NoGoods.{CutStep}
use Rattle.bl_cut_terms.specs.Adopting.{Adopted, adopt_cuts, moved_parts, are_in_order}
use Rattle.bl_cut_proof.proofs.CodeLemmas.{own_some, own_disorder}
use Rattle.bl_cut_proof.proofs.steps.steps_of.Goals as goal

pub returns-then-not-are_in_order-clause-err : goal.returns-then-not-are_in_order-clause-err
returns-then-not-are_in_order-clause-err c =
    let b : Adopted =
    record { steps = map arc_value c.adopt_cuts.new.steps.items; places = c.in_ok-places.places.items } in
    let start : List CutStep = map arc_value c.new-steps.result.items in
    let none : start ≡ [] = search rules in
    let adopted : adopt_cuts c.args.parts.now.tight 0 c.args.earlier.now (Some (record { steps = start; places = [] }))
    ≡ Some b =
    subst (λ (tight : List Tight). adopt_cuts tight 0 c.args.earlier.now (Some (record { steps = start; places = [] }))
    ≡ Some b) c.as_slice.ensures c.in_ok-places.ensures.ok in
    let own : c.in_ok-own.own ≡ moved_parts b.places c.args.parts.now =
    c.in_ok-own.ensures.ok ∙ ap (λ (ps : List ℕ). moved_parts ps c.args.parts.now) c.deref.ensures.value in
    λ p. own_disorder p (arc_value c.args.area.now) c.args.earlier.now c.args.parts.now start b c.in_ok-own.own none
    adopted own (ap are_in_order (sym c.as_slice-2.ensures) ∙ sym c.are_in_order.ensures ∙ c.if-not-are_in_order.true)

pub returns-clause-ok : goal.returns-clause-ok
returns-clause-ok c =
    let b : Adopted =
    record { steps = map arc_value c.adopt_cuts.new.steps.items; places = c.in_ok-places.places.items } in
    let start : List CutStep = map arc_value c.new-steps.result.items in
    let none : start ≡ [] = search rules in
    let adopted : adopt_cuts c.args.parts.now.tight 0 c.args.earlier.now (Some (record { steps = start; places = [] }))
    ≡ Some b =
    subst (λ (tight : List Tight). adopt_cuts tight 0 c.args.earlier.now (Some (record { steps = start; places = [] }))
    ≡ Some b) c.as_slice.ensures c.in_ok-places.ensures.ok in
    let own : c.in_ok-own.own ≡ moved_parts b.places c.args.parts.now =
    c.in_ok-own.ensures.ok ∙ ap (λ (ps : List ℕ). moved_parts ps c.args.parts.now) c.deref.ensures.value in
    λ p row. own_some p (arc_value c.args.area.now) c.args.earlier.now c.args.parts.now c.args.row row start b
    c.in_ok-own.own (map arc_value c.add_own.new.steps.items) none adopted own
    (ap are_in_order (sym c.as_slice-2.ensures) ∙ sym c.are_in_order.ensures ∙ c.if-not-are_in_order.false)
    c.in_ok-add_own.ensures
