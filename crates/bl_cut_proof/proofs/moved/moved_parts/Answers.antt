use Rattle.std.proofs.Common.{rules, ◌≡◌, ◌<◌, ℕ, length, All, sym, ◌∙◌, ap, subst, arith, List, map}
use Rattle.std.specs.Int.{w64}
use Rattle.std.specs.Prelude.{FitsSigned}
use Rattle.std.proofs.lemmas.Int.{to_z-of_z}
use Rattle.bl_cut_terms.specs.declared.parts.Tight.{Tight}
use Rattle.bl_cut_terms.specs.Adopting.{order_of, item_at, renumbered_items, reordered, moved_parts}
use Rattle.bl_cut_proof.proofs.MoveLemmas.{length-order}
use Rattle.bl_cut_proof.proofs.CodeLemmas.{order_below, moved_order, moved_items}
use Rattle.bl_cut_proof.proofs.SameLemmas.{parts_same}
use Rattle.bl_cut_proof.proofs.moved.moved_parts.Goals as goal

pub items_in-requires : goal.items_in-requires
items_in-requires c =
    subst (All (λ (i : ℕ). i < length c.deref-2.result.now)) (sym (c.deref-3.ensures.value ∙ c.in_ok-order.ensures))
    (subst (λ (xs : List Tight). All (λ (i : ℕ). i < length c.deref-2.result.now) (order_of xs (length xs)))
    (c.deref-2.ensures.value ∙ sym c.deref.ensures.value)
    (order_below c.deref-2.result.now (length c.deref-2.result.now)))

pub reordered_units-requires : goal.reordered_units-requires
reordered_units-requires c =
    let l = length-order c.deref.result.now (length c.deref.result.now) in
    let e = ap length (c.deref-4.ensures.value ∙ c.in_ok-order.ensures) in
    let f = ap length c.deref.ensures.value in
    let count : c.len.result ≡ length c.in_ok-items.items.items = search rules in
    omega (arith, c.if-len.false)

pub returns-clause-ok : goal.returns-clause-ok
returns-clause-ok c =
    let parts = c.args.parts.now in
    let places = c.args.places.now in
    let den : FitsSigned w64 parts.den = search rules in
    let items : c.deref.result.now ≡ renumbered_items places parts =
    c.deref.ensures.value ∙ c.in_ok-items.ensures ∙ ap (map _) c.as_slice.ensures in
    let order : c.in_ok-order.order.items ≡ order_of c.deref.result.now (length c.deref.result.now) =
    c.in_ok-order.ensures in
    let there : c.deref-2.result.now ≡ c.deref.result.now = c.deref-2.ensures.value ∙ sym c.deref.ensures.value in
    parts_same _ (moved_parts places parts)
    (c.new.ensures ∙ c.in_ok-tight.ensures
    ∙ ap (λ (is : List Tight). map (λ i. item_at is i) c.deref-3.result.now) there
    ∙ ap (map (λ i. item_at c.deref.result.now i)) c.deref-3.ensures.value
    ∙ moved_items places parts c.deref.result.now c.in_ok-order.order.items items order)
    (to_z-of_z w64 _ den)
    (c.new-2.ensures ∙ c.in_ok-units.ensures
    ∙ ap (map (λ unit. reordered unit 0 c.deref-4.result.now)) c.as_slice-2.ensures
    ∙ ap (λ (is : List ℕ). map (λ unit. reordered unit 0 is) parts.units)
    (c.deref-4.ensures.value ∙ moved_order places parts c.deref.result.now c.in_ok-order.order.items items order))
    (c.new-3.ensures ∙ c.in_ok-point.ensures.items ∙ c.as_slice-3.ensures)
    (c.new-4.ensures ∙ c.in_ok-response.ensures.items ∙ c.as_slice-4.ensures)
