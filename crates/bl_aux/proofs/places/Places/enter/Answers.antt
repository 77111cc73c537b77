use Rattle.std.proofs.Common.{◌≡◌, ℕ, List, ◌∷◌, [], ◌++◌, ℤ, Some, None, sym, ap, ◌∙◌}
use Rattle.std.specs.Int.{w128}
use Rattle.std.proofs.lemmas.Int.{to_z-of_z}
use Rattle.bl_aux.specs.Drafts.{PlaceList, place_below}
use Rattle.bl_aux.proofs.PlaceLaws.{index_rule-outside, index_rule-repeated, index_rule-next, places-pushed}
use Rattle.bl_aux.proofs.places.Places.enter.Goals as goal

abbrev with_limit : ℕ → List ℤ → PlaceList
with_limit limit given = record { limit = limit; given = given }

pub returns-in_default : goal.returns-in_default
returns-in_default c =
    let limit = c.self.inside.limit in
    let none : place_below limit c.args.number ≡ None =
    ap (place_below limit) (sym (to_z-of_z w128 c.args.number c.ranges.number)) ∙ sym c.place_below.ensures.below
    ∙ c.in_default.is in
    rw (sym c.self.view_is) (index_rule-outside limit c.self.inside.places.keys c.args.number c.self.invariant none)

pub returns-then-contains : goal.returns-then-contains
returns-then-contains c =
    let limit = c.self.inside.limit in
    let some : place_below limit c.args.number ≡ Some c.in-Some.place =
    ap (place_below limit) (sym (to_z-of_z w128 c.args.number c.ranges.number)) ∙ sym c.place_below.ensures.below
    ∙ c.in-Some.is in
    rw (sym c.self.view_is)
    (index_rule-repeated limit c.self.inside.places.keys c.args.number c.in-Some.place some
    (sym c.contains.ensures ∙ c.if-contains.true))

pub returns : goal.returns
returns c =
    let limit = c.self.inside.limit in
    let some : place_below limit c.args.number ≡ Some c.in-Some.place =
    ap (place_below limit) (sym (to_z-of_z w128 c.args.number c.ranges.number)) ∙ sym c.place_below.ensures.below
    ∙ c.in-Some.is in
    let absent = sym c.contains.ensures ∙ c.if-contains.false in (
      rw (sym c.self.view_is)
          (index_rule-next limit c.self.inside.places.keys c.args.number c.in-Some.place some absent),
      ap (λ (given : List ℤ). with_limit limit given)
          (places-pushed limit c.self.inside.places.keys c.insert.new.self.keys c.args.number c.in-Some.place some
          absent c.in_ok-insert.ensures.keys)
          ∙ ap (λ (p : PlaceList). with_limit p.limit (p.given ++ c.args.number ∷ [])) c.self.view_is,
    )
