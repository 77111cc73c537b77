use Rattle.std.proofs.Common.{◌≡◌, ◌∙◌, ◌<◌, ℕ, Bool, true, false, not, ◌&&◌, length, ap, sym, arith, rules}
use Rattle.std.proofs.lemmas.List.FromFn.{length-map-range_with_len}
use Rattle.bl_terms.specs.Points.{is_among}
use Rattle.bl_terms.specs.Programs.{is_in_lower, is_linking}
use Rattle.bl_model.proofs.BuildLemmas.{mark_at}
use Rattle.bl_model.proofs.PlaceLemmas.{places_where_step}
use Rattle.bl_model.proofs.join.link_places.Goals as goal
use Rattle.bl_model.proofs.join.link_places.Goals.{then-links+in_ok-push, else-links}

pub index-requires : goal.index-requires
index-requires c =
    omega (
      arith,
      ap length c.in_ok-is_follower.ensures,
      length-map-range_with_len (λ k. is_among k c.args.follower.now) 0 c.args.column_count,
    )

pub loop-column-preserved : goal.loop-column-preserved
loop-column-preserved c =
    let column = c.loop-column.column in
    let rows = c.args.rows.now in
    let test : ℕ → Bool = is_linking c.args.follower.now rows in
    let below : column < c.args.column_count = omega arith in
    let mark : c.index.result.now ≡ is_among column c.args.follower.now =
    c.index.ensures ∙ mark_at c.args.follower.now c.args.column_count column c.in_ok-is_follower.is_follower.items _
    c.in_ok-is_follower.ensures below in
    let tested : c.links.result ≡ test column =
    c.links.ensures ∙ ap (λ (b : Bool). not b && is_in_lower rows (length rows) column) mark in
    elim c.if-links.branch [
      | then-links+in_ok-push w ↦
          places_where_step test column true c.loop-column.places.items _ c.loop-column.invariant
          (sym tested ∙ w.if-links.true)
          (ap (λ v. v.items) w.places-is ∙ w.in_ok-push.ensures.items)
      | else-links w ↦
          places_where_step test column false c.loop-column.places.items _ c.loop-column.invariant
          (sym tested ∙ w.if-links.false) (search rules)
    ]
