use Rattle.std.proofs.Common.{true, false, slice_index_or, rules, ◌∙◌, ap}
use Rattle.bl_model.proofs.PlaceLemmas.{places_where_step}
use Rattle.bl_model.proofs.places.marked.Goals as goal
use Rattle.bl_model.proofs.places.marked.Goals.{then-is_set+in_ok-push, else-is_set}

pub loop-place-preserved : goal.loop-place-preserved
loop-place-preserved c =
    elim c.if-is_set.branch [
      | then-is_set+in_ok-push w ↦
          places_where_step (λ k. slice_index_or c.args.marks.now k false) c.loop-place.place true
          c.loop-place.places.items _ c.loop-place.invariant w.if-is_set.true
          (ap (λ v. v.items) w.places-is ∙ w.in_ok-push.ensures.items)
      | else-is_set w ↦ places_where_step
          (λ k. slice_index_or c.args.marks.now k false) c.loop-place.place false c.loop-place.places.items _
          c.loop-place.invariant w.if-is_set.false (search rules)
    ]
