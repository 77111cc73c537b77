-- The numbers of lines, as what they stand for asks.
use Rattle.std.proofs.Common.{◌≡◌, ℕ, suc, ◌<◌, ◌≤◌, ◌+◌, refl, sym, ◌∙◌, subst, arith, List, []}
use Rattle.std.proofs.Common.{◌∷◌, length, inl, inr}
use Rattle.std.specs.Prelude.{ℤ, pos, negsuc, neg_ℤ, ◌≤ℤ◌, ◌<ℤ◌, All, map, slice_index_or, unsigned_abs}
use Rattle.std.specs.List.{AllAdjacentBelow}
use Rattle.std.specs.List.Sorted.{IsStrictlyIncreasing}
use Rattle.std.proofs.lemmas.Int.{ints}
use Rattle.std.proofs.lemmas.List.{length-map, get_or-map}
use Rattle.std.proofs.lemmas.List.Elements.{All-tail}
use Rattle.bl_limits.specs.declared.TheConstants.{MAX_PROOF_NUMBER}
use Rattle.bl_terms.specs.Points.{IsArea, IsWithinArea}
use Rattle.bl_terms.specs.Programs.{Program, root}
use Rattle.bl_terms.proofs.TestLemmas.{pos-unsigned_abs}
use Rattle.bl_cut_terms.specs.NoGoods as cuts
use Rattle.bl_certline.specs.declared.line.TightItem.{TightItem}
use Rattle.bl_certline.specs.declared.line.TightItem.TheVariants as items
use Rattle.bl_certline.specs.Lines.{IsProofNumber, AreMultipliers, IndicesRise}
use Rattle.bl_certtext.specs.Places.{IsPlace, AreBelow, AreInOrder, IsBefore, IsThere, IsPart, Rise, kind_of, place_of}
use Rattle.bl_check_terms.specs.Values.{area_of, tight_of, unit_of}

adjacent_tail : {A : Type 0} (R : A → A → Type 0) (x : A) (xs : List A)
    → AllAdjacentBelow R (x ∷ xs) (length (x ∷ xs)) → AllAdjacentBelow R xs (length xs)
adjacent_tail R x xs h = λ k d b.
    let e : suc k + 1 ≡ suc (k + 1) = omega arith in
    subst (λ n. R (slice_index_or xs k d) (slice_index_or (x ∷ xs) n d)) e (h (suc k) d (omega arith))

-- a number that names a place
pub placed_number : (n : ℕ) (i : ℤ) → IsPlace n i → (pos (unsigned_abs i) ≡ i) × (unsigned_abs i < n)
placed_number n i h =
    let e = pos-unsigned_abs i h.0 in
    let below = h.1 in
    (e, omega (arith, ints))

pub in_limit : (z : ℤ) → IsProofNumber z → (neg_ℤ MAX_PROOF_NUMBER ≤ℤ z) × (z ≤ℤ MAX_PROOF_NUMBER)
in_limit (pos n) h = (omega (arith, ints), omega (arith, ints))
in_limit (negsuc n) h = (omega (arith, ints), omega (arith, ints))

-- ---- boxes

pub part_is_area : (p : Program) (sides : List (ℤ × ℤ)) → IsPart p sides → IsArea (area_of sides)
part_is_area p sides h =
    let lo_count = length-map sides (λ s. s.0) in
    record {
      sides = length-map sides (λ s. s.1) ∙ sym lo_count;
      ordered = λ k b.
          let within : k < length sides = omega (arith, lo_count) in
          let count = h.count in
          let lo = get_or-map (λ s. s.0) sides k (pos 0, pos 0) (pos 0) within in
          let hi = get_or-map (λ s. s.1) sides k (pos 0, pos 0) (pos 0) within in
          let at = h.ordered k (omega arith) in
          omega (arith, ints);
    }

pub part_is_within : (p : Program) (sides : List (ℤ × ℤ)) → IsPart p sides → IsWithinArea (area_of sides) (root p)
part_is_within p sides h =
    let count = h.count in
    record {
      columns = length-map sides (λ s. s.0) ∙ h.count;
      least = λ k b.
          let lo = get_or-map (λ s. s.0) sides k (pos 0, pos 0) (pos 0) (omega arith) in
          let at = h.least k b in
          omega (arith, ints);
      most = λ k b.
          let hi = get_or-map (λ s. s.1) sides k (pos 0, pos 0) (pos 0) (omega arith) in
          let at = h.most k b in
          omega (arith, ints);
    }

-- ---- tight items

same_kind : (x : TightItem) → cuts.kind_of (tight_of x) ≡ kind_of x
same_kind (items.Row place) = refl
same_kind (items.Upper place) = refl
same_kind (items.Lower place) = refl
same_kind (items.Cut place) = refl

same_place : (p : Program) (earlier : ℕ) (x : TightItem) → IsThere p earlier x
    → pos (cuts.place_of (tight_of x)) ≡ place_of x
same_place p earlier (items.Row place) h = pos-unsigned_abs place h.0
same_place p earlier (items.Upper place) h = pos-unsigned_abs place h.0
same_place p earlier (items.Lower place) h = pos-unsigned_abs place h.0
same_place p earlier (items.Cut place) h = pos-unsigned_abs place h.0

one_before : (p : Program) (earlier : ℕ) (x y : TightItem) → IsThere p earlier x → IsThere p earlier y → IsBefore x y
    → cuts.IsBefore (tight_of x) (tight_of y)
one_before p earlier x y hx hy (inl lower) =
    let kx = same_kind x in
    let ky = same_kind y in
    inl (omega arith)
one_before p earlier x y hx hy (inr same) =
    let px = same_place p earlier x hx in
    let py = same_place p earlier y hy in
    let lower = same.1 in
    inr (same_kind x ∙ same.0 ∙ sym (same_kind y), omega (arith, ints))

pub in_order : (p : Program) (earlier : ℕ) (tight : List TightItem) → AreInOrder tight
    → All (IsThere p earlier) tight → cuts.AreInOrder (map tight_of tight)
in_order p earlier [] order there = tt
in_order p earlier (x ∷ []) order there = tt
in_order p earlier (x ∷ y ∷ tight) order there = (
  one_before p earlier x y (there 0 x (omega arith)) (there 1 x (omega arith)) (order 0 x (omega arith)),
  in_order p earlier (y ∷ tight) (adjacent_tail IsBefore x (y ∷ tight) order)
      (All-tail (IsThere p earlier) x (y ∷ tight) there),
)

-- ---- units

-- the first index isn't below this one
abbrev FirstFrom : ℕ → List (ℤ × ℤ) → Type 0
FirstFrom least [] = Unit {0}
FirstFrom least (x ∷ pairs) = pos least ≤ℤ x.0

next_first : (x : ℤ × ℤ) (pairs : List (ℤ × ℤ)) → pos (unsigned_abs x.0) ≡ x.0 → IndicesRise (x ∷ pairs)
    → FirstFrom (suc (unsigned_abs x.0)) pairs
next_first x [] e rise = tt
next_first x (y ∷ pairs) e rise =
    let lower : x.0 <ℤ y.0 = rise 0 x (omega arith) in
    omega (arith, ints)

unit_from : (least n : ℕ) (pairs : List (ℤ × ℤ)) → AreBelow n pairs → IndicesRise pairs → AreMultipliers pairs
    → FirstFrom least pairs → cuts.IsUnitFrom least n (unit_of pairs)
unit_from least n [] below rise mult first = tt
unit_from least n (x ∷ pairs) below rise mult first =
    let at = placed_number n x.0 (below 0 x (omega arith)) in
    let e = at.0 in
    let limits = in_limit x.1 mult.0.1 in
    let above : least ≤ unsigned_abs x.0 = omega (arith, ints) in (
      (above, at.1, mult.0.0.nonzero, limits.0, limits.1),
      unit_from (suc (unsigned_abs x.0)) n pairs (All-tail (λ y. IsPlace n y.0) x pairs below)
          (adjacent_tail (λ y z. y.0 <ℤ z.0) x pairs rise) mult.1 (next_first x pairs e rise),
    )

pub is_unit : (n : ℕ) (pairs : List (ℤ × ℤ)) → AreBelow n pairs → IndicesRise pairs → AreMultipliers pairs
    → cuts.IsUnit n (unit_of pairs)
is_unit n [] below rise mult = tt
is_unit n (x ∷ pairs) below rise mult =
    let least = (below 0 x (omega arith)).0 in
    unit_from 0 n (x ∷ pairs) below rise mult least

-- ---- cited cuts

pub cited_rise : (n : ℕ) (cited : List ℤ) → All (IsPlace n) cited → Rise cited
    → IsStrictlyIncreasing (map unsigned_abs cited)
cited_rise n cited there rise = λ k b.
    let count = length-map cited unsigned_abs in
    let next : k + 1 < length cited = omega arith in
    let this : k < length cited = omega arith in
    let at = get_or-map unsigned_abs cited k (pos 0) 0 this in
    let at_next = get_or-map unsigned_abs cited (k + 1) (pos 0) 0 next in
    let e = (placed_number n (slice_index_or cited k (pos 0)) (there k (pos 0) this)).0 in
    let f = (placed_number n (slice_index_or cited (k + 1) (pos 0)) (there (k + 1) (pos 0) next)).0 in
    let lower = rise k (pos 0) next in
    omega (arith, ints)
