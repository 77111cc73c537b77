-- The search goes on: what is kept where a box is shut, split or left open.
use Rattle.std.proofs.Common.{◌≡◌, ℕ, ◌+◌, List, [], ◌∷◌, ◌++◌, length, sym, ◌∙◌, ap, subst, arith, inl, inr}
use Rattle.std.specs.Prelude.{ℤ, Option, Some, reverse}
use Rattle.std.proofs.lemmas.Int.{ints}
use Rattle.std.proofs.lemmas.List.{length-append, length-reverse}
use Rattle.bl_terms.specs.Points.{Area, IsOnePoint}
use Rattle.bl_terms.specs.Bounds.{Problem, Multipliers, Proves, over}
use Rattle.bl_terms.specs.Trees.{CanSplit, low_half, high_half}
use Rattle.bl_licence.specs.declared.why.Why.{Why}
use Rattle.bl_licence.specs.Why.{IsLicence}
use Rattle.bl_fproof.proofs.Walks.{top_first}
use Rattle.bl_follower_tree.specs.declared.licensed.LicensedNode.TheVariants as node
use Rattle.bl_follower_tree.specs.Growth.{Grown, IsGrown, shut_by, split_by, left_by}
use Rattle.bl_follower_tree.proofs.Growth.{grown_by_shut, grown_by_split, grown_by_leave, grown_below}
use Rattle.bl_follower_tree.proofs.Growth.{room_for_split}
use Rattle.bl_follower.specs.declared.response.Response.{Response}
use Rattle.bl_follower.specs.Search.{cutoff_of, IsLowerBest, IsUnderWay, IsSplitOrLeft, IsOneMore}
use Rattle.bl_follower.proofs.Responses.{best_reached}

one_longer : {X : Type 0} (xs : List X) (x : X) → length (xs ++ x ∷ []) ≡ length xs + 1
one_longer xs x = length-append xs (x ∷ [])

not_one_point : (a : Area) (j : ℕ) (v : ℤ) → CanSplit a j v → ¬ IsOnePoint a
not_one_point a j v can one =
    let fixed = one.fixed j can.column in let least = can.least in let below = can.below in omega (arith, ints)

-- the grown tree at the new cutoff
lower : (q : Problem) (budget : ℕ) (found new : Option Response) (g : Grown) (boxes : List Area)
    → IsUnderWay q budget found g boxes → IsLowerBest q found new → IsGrown q (cutoff_of new) g boxes
lower q budget found new g boxes h low =
    grown_below q (cutoff_of found) (cutoff_of new) g boxes low.lowered h.grown

pub more_by_shut : (q : Problem) (budget : ℕ) (found new : Option Response) (g g' : Grown) (a : Area) (w : Multipliers)
    → IsUnderWay q budget found g (a ∷ reverse g.stack) → IsLowerBest q found new
    → Proves (over q a) (cutoff_of new) w → g' ≡ shut_by g w → IsOneMore q budget new g g'
more_by_shut q budget found new g g' a w h low p e =
    let one = one_longer g.nodes node.Shut in
    let within = h.within in
    subst (λ g'. IsOneMore q budget new g g') (sym e) (record {
      goes_on = record {
        grown = grown_by_shut q (cutoff_of new) g a (reverse g.stack) w
            (lower q budget found new g (a ∷ reverse g.stack) h low) p;
        best = low.best;
        within = omega arith;
        full = λ e. let f = h.full e in (omega (arith, f.0), f.1);
      };
      longer = one;
    })

by_stuck : (q : Problem) (budget : ℕ) (found new : Option Response) (g g' : Grown) (a : Area) (j : ℕ) (v : ℤ)
    (why : Why) → IsUnderWay q budget found g (a ∷ reverse g.stack) → IsLowerBest q found new → CanSplit a j v
    → IsLicence (over q a) (cutoff_of new) why → IsSplitOrLeft budget a j v (cutoff_of new) why g g'
    → IsOneMore q budget new g g'
by_stuck q budget found new g g' a j v why h low can licence (inl (room, e)) =
    let u = cutoff_of new in
    let low_box = low_half a j v in
    let high_box = high_half a j v in
    let grown = grown_by_split q u u g a (reverse g.stack) j v why
    (lower q budget found new g (a ∷ reverse g.stack) h low) can
    (record { reached = best_reached q new low.best; licence = licence }) in
    let order : reverse ((g.stack ++ high_box ∷ []) ++ low_box ∷ []) ≡ low_box ∷ high_box ∷ reverse g.stack =
    top_first low_box (g.stack ++ high_box ∷ []) ∙ ap (λ xs. low_box ∷ xs) (top_first high_box g.stack) in
    let split = split_by g j v (low_box, high_box) u why in
    let one = one_longer g.nodes (node.Split j v why) in
    let size = length-reverse g.stack in
    let on : IsUnderWay q budget new split (low_box ∷ high_box ∷ reverse g.stack) = record {
      grown = grown;
      best = low.best;
      within = omega arith;
      full = λ e. let f = h.full e in absurd (omega (arith, f.0));
    } in
    subst (λ g'. IsOneMore q budget new g g') (sym e)
    (record { goes_on = subst (λ boxes. IsUnderWay q budget new split boxes) (sym order) on; longer = one })
by_stuck q budget found new g g' a j v why h low can licence (inr (full, e)) =
    let u = cutoff_of new in
    let lowered = lower q budget found new g (a ∷ reverse g.stack) h low in
    let grown = grown_by_leave q u u g a (reverse g.stack) why lowered (not_one_point a j v can)
    (record { reached = best_reached q new low.best; licence = licence }) in
    let one = one_longer g.nodes (node.Left (Some why)) in
    let size = length-reverse g.stack in
    let within = h.within in
    let room = room_for_split q u g a (reverse g.stack) j v lowered can in
    let left = left_by g u why in
    let on : IsUnderWay q budget new left (reverse g.stack) = record {
      grown = grown;
      best = low.best;
      within = omega arith;
      full = λ _. (omega arith, omega arith);
    } in
    subst (λ g'. IsOneMore q budget new g g') (sym e) (record { goes_on = on; longer = one })

pub more_by_stuck : (q : Problem) (budget : ℕ) (found new : Option Response) (g g' : Grown) (a : Area) (j : ℕ) (v : ℤ)
    (u : Option ℤ) (why : Why) → IsUnderWay q budget found g (a ∷ reverse g.stack) → IsLowerBest q found new
    → CanSplit a j v → IsLicence (over q a) (cutoff_of new) why → u ≡ cutoff_of new
    → IsSplitOrLeft budget a j v u why g g' → IsOneMore q budget new g g'
more_by_stuck q budget found new g g' a j v u why h low can licence eu step =
    by_stuck q budget found new g g' a j v why h low can licence
    (subst (λ u. IsSplitOrLeft budget a j v u why g g') eu step)
