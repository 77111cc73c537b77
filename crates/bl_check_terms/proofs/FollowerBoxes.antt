-- Boxes of all columns, on the follower's columns.
use Rattle.std.proofs.Common.{◌≡◌, ◌≢◌, ℕ, suc, ◌<◌, refl, sym, ◌∙◌, ap, subst, arith, Bool, true, false, List, []}
use Rattle.std.proofs.Common.{◌∷◌, length, inl, inr}
use Rattle.std.specs.Prelude.{ℤ, pos, ◌+ℤ◌, ◌≤ℤ◌, ◌<ℤ◌, nat_eq, slice_index, slice_set, Contains, if◌then◌else◌}
use Rattle.std.specs.List.Sorted.{IsStrictlyIncreasing}
use Rattle.std.proofs.lemmas.Bool.{cases_lt, cases_eq, eqb-true, eqb-false}
use Rattle.std.proofs.lemmas.List.{length-map, get_or-set_same, get_or-set_other, length-set, ext_get_or}
use Rattle.std.proofs.lemmas.List.Kept.{AllPairs-from_increasing}
use Rattle.bl_whole.specs.Sums.{component}
use Rattle.bl_whole.proofs.SumLemmas.{Contains-cases}
use Rattle.bl_terms.specs.Points.{Area, values_at}
use Rattle.bl_terms.specs.Programs.{Program}
use Rattle.bl_terms.specs.Trees.{CanSplit, low_half, high_half}
use Rattle.bl_terms.proofs.PlaceLemmas.{values_at-entry}
use Rattle.bl_check_terms.specs.Values.{followers_area, place_in}

-- the place of a number in a list is there, and has the number
pub record IsPlaced (ks : List ℕ) (k j : ℕ) : Type 0 where
  pub within : j < length ks
  pub same : slice_index ks j ≡ k

pub placed : (ks : List ℕ) (k : ℕ) → Contains ks k → IsPlaced ks k (place_in ks k)
placed [] k c = absurd (omega (arith, c.1))
placed (x ∷ xs) k c = by (λ there. placed xs k there) (nat_eq x k) refl
  where
    by : (Contains xs k → IsPlaced xs k (place_in xs k)) → (t : Bool) → nat_eq x k ≡ t
        → IsPlaced (x ∷ xs) k (if t then 0 else suc (place_in xs k))
    by rest true e = record { within = omega arith; same = eqb-true x k e }
    by rest false e = elim (Contains-cases x k xs c) [
      | inl same ↦ absurd (eqb-false x k e (sym same))
      | inr there ↦
          let h = rest there in
          record { within = let b = h.within in omega arith; same = h.same }
    ]

-- at the other places of a list that rises stand other numbers
pub other_number : (ks : List ℕ) (k i j : ℕ) → IsStrictlyIncreasing ks → IsPlaced ks k j → i < length ks → i ≢ j
    → slice_index ks i ≢ k
other_number ks k i j rising at b ne same = elim (cases_lt i j) [
  | inl lower ↦
      let less = AllPairs-from_increasing ks rising i j 0 lower at.within in
      let one = at.same in
      omega arith
  | inr upper ↦
      let above : j < i = omega arith in
      let less = AllPairs-from_increasing ks rising j i 0 above b in
      let one = at.same in
      omega arith
]

-- a number that is set at a column is set at its place
pub values_at-set : (z : List ℤ) (ks : List ℕ) (k j : ℕ) (v : ℤ) → IsStrictlyIncreasing ks → IsPlaced ks k j
    → k < length z → values_at (slice_set z k v) ks ≡ slice_set (values_at z ks) j v
values_at-set z ks k j v rising at b =
    let count = length-map ks (λ i. component z i) in
    let other_count = length-map ks (λ i. component (slice_set z k v) i) in
    ext_get_or (pos 0) (values_at (slice_set z k v) ks) (slice_set (values_at z ks) j v)
    (other_count ∙ sym (length-set (values_at z ks) j v ∙ count))
    (λ i within.
    let below : i < length ks = omega (arith, other_count) in
    values_at-entry (slice_set z k v) ks i below ∙ elim (cases_eq i j) [
      | inl same ↦
          let here : slice_index ks i ≡ k = ap (λ n. slice_index ks n) same ∙ at.same in
          let size : j < length (values_at z ks) = let w = at.within in omega (arith, count) in
          ap (λ n. component (slice_set z k v) n) here ∙ get_or-set_same z k v (pos 0) b
          ∙ sym (ap (λ n. component (slice_set (values_at z ks) j v) n) same
          ∙ get_or-set_same (values_at z ks) j v (pos 0) size)
      | inr ne ↦
          get_or-set_other z k (slice_index ks i) v (pos 0) (other_number ks k i j rising at below ne)
          ∙ sym (get_or-set_other (values_at z ks) j i v (pos 0) ne ∙ values_at-entry z ks i below)
    ])

module _ (p : Program) (a : Area) (k : ℕ) (v : ℤ) (rising : IsStrictlyIncreasing p.follower)
    (here : Contains p.follower k) (can : CanSplit a k v) where
  -- where a box is split at a column of the follower, so is his part of it
  pub followers_split : CanSplit (followers_area p a) (place_in p.follower k) v
  followers_split =
      let at = placed p.follower k here in
      let lo = values_at-entry a.lo p.follower (place_in p.follower k) at.within
      ∙ ap (λ n. component a.lo n) at.same in
      let hi = values_at-entry a.hi p.follower (place_in p.follower k) at.within
      ∙ ap (λ n. component a.hi n) at.same in
      record {
        column = let w = at.within in omega (arith, length-map p.follower (λ i. component a.lo i));
        least = subst (λ x. x ≤ℤ v) (sym lo) can.least;
        below = subst (λ x. v <ℤ x) (sym hi) can.below;
      }

  -- and his parts of the halves are the halves of his part
  pub followers_low : length a.hi ≡ length a.lo
      → followers_area p (low_half a k v) ≡ low_half (followers_area p a) (place_in p.follower k) v
  followers_low sides =
      let b : k < length a.hi = let c = can.column in omega arith in
      ap (λ (hi : List ℤ). record { lo = values_at a.lo p.follower; hi = hi })
      (values_at-set a.hi p.follower k (place_in p.follower k) v rising (placed p.follower k here) b)

  pub followers_high : followers_area p (high_half a k v) ≡ high_half (followers_area p a) (place_in p.follower k) v
  followers_high =
      ap (λ (lo : List ℤ). record { lo = lo; hi = values_at a.hi p.follower })
      (values_at-set a.lo p.follower k (place_in p.follower k) (v +ℤ pos 1) rising (placed p.follower k here)
      can.column)
