use Rattle.std.proofs.Common.{◌≡◌, ◌∙◌, ℕ, Bool, false, List, length, ap, subst, arith}
use Rattle.std.specs.Prelude.{IfOk, slice_index_or}
use Rattle.std.proofs.lemmas.List.FromFn.{length-map-range_with_len}
use Rattle.bl_terms.specs.Points.{is_among}
use Rattle.bl_terms.specs.Programs.{places_where}
use Rattle.bl_model.proofs.JoinLemmas.{marks_where}
use Rattle.bl_model.proofs.join.follower_places.Goals as goal

pub marked-requires : goal.marked-requires
marked-requires c =
    omega (
      arith,
      ap length (c.deref.ensures.value ∙ c.in_ok-is_follower.ensures),
      length-map-range_with_len (λ k. is_among k c.args.follower.now) 0 c.args.column_count,
      c.requires.few,
    )

pub returns : goal.returns
returns c =
    let marked = ap (λ (m : List Bool). places_where (λ k. slice_index_or m k false) (length m))
    c.deref.ensures.value in
    let kept = marks_where c.in_ok-is_follower.is_follower.items
    (λ k. is_among k c.args.follower.now) c.args.column_count c.in_ok-is_follower.ensures in
    subst (λ (places : List ℕ). IfOk c.marked.result (λ v. v.items ≡ places)) (marked ∙ kept) c.marked.ensures
