-- Laws of sums by place.
use Rattle.std.proofs.Common.{◌≡◌, ◌≢◌, ℕ, zero, suc, ◌+◌, ◌<◌, refl, sym, ◌∙◌, arith, add-one, add-suc, add-zero, List}
use Rattle.std.proofs.Common.{[], ◌∷◌, length, cond, subst, ◌⊎◌, inl, inr}
use Rattle.std.specs.Prelude.{ℤ, pos, ◌+ℤ◌, ◌*ℤ◌, ◌≤ℤ◌, nat_eq, slice_index, Contains}
use Rattle.std.specs.Int.Signed.{≤ℤ_refl}
use Rattle.std.proofs.Math.IntN.{*ℤ-zero}
use Rattle.std.proofs.lemmas.Int.{ints}
use Rattle.std.proofs.lemmas.Bool.{cases_lt, cases_eq}
use Rattle.std.proofs.lemmas.Bool.Decides.{nat_tests}
use Rattle.std.specs.List.Sorted.{IsStrictlyIncreasing}
use Rattle.bl_whole.specs.Sums.{sum_over, sum_below}
use Rattle.bl_whole.proofs.Products.{*ℤ-+ℤ}

-- one more place
pub sum_below_more : (n : ℕ) (f : ℕ → ℤ) → sum_below (n + 1) f ≡ sum_below n f +ℤ f n
sum_below_more n f = rw (add-one n) refl

-- the summands below n decide the sum
pub sum_below-agree : (n : ℕ) (f g : ℕ → ℤ) → ((k : ℕ) → k < n → f k ≡ g k) → sum_below n f ≡ sum_below n g
sum_below-agree zero f g h = refl
sum_below-agree (suc n) f g h =
    let i = sum_below-agree n f g (λ k b. h k (omega arith)) in
    let e = h n (omega arith) in
    cc

-- a sum of zeros
pub sum_below-zero : (n : ℕ) (f : ℕ → ℤ) → ((k : ℕ) → k < n → f k ≡ pos 0) → sum_below n f ≡ pos 0
sum_below-zero zero f h = refl
sum_below-zero (suc n) f h =
    let i = sum_below-zero n f (λ k b. h k (omega arith)) in
    let e = h n (omega arith) in
    omega (arith, ints)

-- the sum of sums
pub sum_below-add : (n : ℕ) (f g : ℕ → ℤ) → sum_below n (λ k. f k +ℤ g k) ≡ sum_below n f +ℤ sum_below n g
sum_below-add zero f g = refl
sum_below-add (suc n) f g = let i = sum_below-add n f g in omega (arith, ints)

-- a factor goes before the sum
pub sum_below-scale : (n : ℕ) (c : ℤ) (f : ℕ → ℤ) → sum_below n (λ k. c *ℤ f k) ≡ c *ℤ sum_below n f
sum_below-scale zero c f = sym (*ℤ-zero c)
sum_below-scale (suc n) c f =
    let i = sum_below-scale n c f in
    let e = *ℤ-+ℤ c (sum_below n f) (f n) in
    omega (arith, ints)

-- the first m places, and then n more
pub sum_below-split : (m n : ℕ) (f : ℕ → ℤ) → sum_below (m + n) f ≡ sum_below m f +ℤ sum_below n (λ k. f (m + k))
sum_below-split m zero f = rw (add-zero m) (omega (arith, ints))
sum_below-split m (suc n) f = rw (add-suc m n) (let i = sum_below-split m n f in omega (arith, ints))

-- rows of columns, or columns of rows
pub sum_below-exchange : (m n : ℕ) (f : ℕ → ℕ → ℤ)
    → sum_below m (λ i. sum_below n (λ j. f i j)) ≡ sum_below n (λ j. sum_below m (λ i. f i j))
sum_below-exchange zero n f = sym (sum_below-zero n (λ _. pos 0) (λ k b. refl))
sum_below-exchange (suc m) n f =
    let i = sum_below-exchange m n f in
    let e = sum_below-add n (λ j. sum_below m (λ i. f i j)) (λ j. f m j) in
    omega (arith, ints)

-- greater summands have a greater sum
pub sum_below_monotone : (n : ℕ) (f g : ℕ → ℤ) → ((k : ℕ) → k < n → f k ≤ℤ g k) → sum_below n f ≤ℤ sum_below n g
sum_below_monotone zero f g h = ≤ℤ_refl (pos 0)
sum_below_monotone (suc n) f g h =
    let i = sum_below_monotone n f g (λ k b. h k (omega arith)) in
    let e = h n (omega arith) in
    omega (arith, ints)

-- one summand from the front
pub sum_below_front : (n : ℕ) (f : ℕ → ℤ) → sum_below (suc n) f ≡ f 0 +ℤ sum_below n (λ k. f (suc k))
sum_below_front zero f = omega (arith, ints)
sum_below_front (suc n) f = let i = sum_below_front n f in omega (arith, ints)

-- f with 0 at the place k
abbrev pub without : ℕ → (ℕ → ℤ) → ℕ → ℤ
without k f j = cond (nat_eq j k) (pos 0) (f j)

pub without-same : (k : ℕ) (f : ℕ → ℤ) → without k f k ≡ pos 0
without-same k f = grind (arith, nat_tests)

pub without-other : (k j : ℕ) (f : ℕ → ℤ) → j ≢ k → without k f j ≡ f j
without-other k j f h = grind (arith, nat_tests)

-- one summand by itself
pub sum_below_isolate : (n k : ℕ) (f : ℕ → ℤ) → k < n → sum_below n f ≡ f k +ℤ sum_below n (without k f)
sum_below_isolate zero k f h = absurd (omega arith)
sum_below_isolate (suc n) k f h =
    elim (cases_lt k n) [
      | inl b ↦
          let i = sum_below_isolate n k f b in
          let e = without-other k n f (omega arith) in
          omega (arith, ints)
      | inr g ↦
          let same : k ≡ n = omega arith in
          let e = sum_below-agree n f (without k f) (λ j b. sym (without-other k j f (omega arith))) in
          let z = without-same k f in
          let P : ℕ → Type 0 = λ x. sum_below n f +ℤ f x ≡ f k +ℤ (sum_below n (without k f) +ℤ without k f x) in
          subst P same (omega (arith, ints))
    ]

-- each number of xs is below each later one
pub rising_pairs : (xs : List ℕ) → IsStrictlyIncreasing xs → (i j : ℕ) → i < j → j < length xs
    → slice_index xs i < slice_index xs j
rising_pairs xs h i zero a b = absurd (omega arith)
rising_pairs xs h i (suc j) a b =
    let e = add-one j in
    let step : slice_index xs j < slice_index xs (j + 1) = h j (omega arith) in
    let step' : slice_index xs j < slice_index xs (suc j) = rw add-one at step in
    elim (cases_lt i j) [
      | inl c ↦ let r = rising_pairs xs h i j c (omega arith) in omega arith
      | inr c ↦ let same : i ≡ j = omega arith in rw same step'
    ]

sum_over-cons : (k : ℕ) (ks : List ℕ) (f : ℕ → ℤ) → sum_over (k ∷ ks) f ≡ f k +ℤ sum_over ks f
sum_over-cons k ks f = sum_below_front (length ks) (λ j. f (slice_index (k ∷ ks) j))

-- the first element, and each later one, of a list
pub Contains-here : (k : ℕ) (ks : List ℕ) → Contains (k ∷ ks) k
Contains-here k ks = (0, omega arith, refl)

pub Contains-there : (k j : ℕ) (ks : List ℕ) → Contains ks j → Contains (k ∷ ks) j
Contains-there k j ks c = (suc c.0, omega (arith, c.1), c.2)

pub Contains-cases : (k j : ℕ) (ks : List ℕ) → Contains (k ∷ ks) j → (j ≡ k) ⊎ Contains ks j
Contains-cases k j ks (zero, b, e) = inl (sym e)
Contains-cases k j ks (suc i, b, e) = inr (i, omega (arith, b), e)

picked_from_pairs : (n : ℕ) (ks : List ℕ) (f : ℕ → ℤ)
    → ((i j : ℕ) → i < j → j < length ks → slice_index ks i < slice_index ks j)
    → ((k : ℕ) → Contains ks k → k < n) → ((k : ℕ) → k < n → ¬ Contains ks k → f k ≡ pos 0)
    → sum_below n f ≡ sum_over ks f
picked_from_pairs n [] f rise below rest = sum_below-zero n f (λ k b. rest k b (λ c. absurd (omega (arith, c.1))))
picked_from_pairs n (k ∷ ks) f rise below rest =
    let first = sum_below_isolate n k f (below k (Contains-here k ks)) in
    let others : sum_below n (without k f) ≡ sum_over ks (without k f) =
    picked_from_pairs n ks (without k f) (λ i j a b. rise (suc i) (suc j) (omega arith) (omega arith))
    (λ j c. below j (Contains-there k j ks c))
    (λ j b no. elim (cases_eq j k) [
      | inl e ↦ rw e (without-same k f)
      | inr ne ↦ without-other k j f ne
          ∙ rest j b (λ c. elim (Contains-cases k j ks c) [ inl e ↦ ne e | inr c' ↦ no c' ])
    ]) in
    let same : sum_over ks (without k f) ≡ sum_over ks f =
    sum_below-agree (length ks) (λ j. without k f (slice_index ks j)) (λ j. f (slice_index ks j))
    (λ j b. without-other k (slice_index ks j) f
    (let r : k < slice_index ks j = rise 0 (suc j) (omega arith) (omega arith) in omega arith)) in
    let e = sum_over-cons k ks f in
    cc

-- a sum whose summands are 0 but at the places of a rising list is the sum over that list
pub sum_below_picked : (n : ℕ) (ks : List ℕ) (f : ℕ → ℤ) → IsStrictlyIncreasing ks → ((k : ℕ) → Contains ks k → k < n)
    → ((k : ℕ) → k < n → ¬ Contains ks k → f k ≡ pos 0) → sum_below n f ≡ sum_over ks f
sum_below_picked n ks f rise below rest = picked_from_pairs n ks f (rising_pairs ks rise) below rest
