-- Lists of places: membership as a test, values at places, and values put at places.
use Rattle.std.proofs.Common.{◌≡◌, ◌≢◌, ℕ, zero, suc, ◌<◌, refl, sym, ◌∙◌, ap, subst, arith, Bool, true, false, ◌||◌}
use Rattle.std.proofs.Common.{cond, List, [], ◌∷◌, length, ◌⊎◌, inl, inr}
use Rattle.std.specs.Prelude.{ℤ, pos, ◌+ℤ◌, ◌*ℤ◌, nat_eq, slice_index, slice_set, Contains}
use Rattle.std.proofs.lemmas.Bool.{eqb-true, cases_Bool}
use Rattle.std.proofs.lemmas.Bool.Decides.{nat_tests}
use Rattle.std.proofs.lemmas.List.{length-map, get_or-map, get_or-set_same, get_or-set_other, length-set}
use Rattle.std.proofs.lemmas.List.{get_or_default}
use Rattle.std.specs.List.Sorted.{IsStrictlyIncreasing}
use Rattle.std.proofs.lemmas.Int.{ints}
use Rattle.bl_whole.specs.Sums.{component, sum_below, sum_over, dot}
use Rattle.bl_whole.proofs.SumLemmas.{sum_below-agree, sum_below-add, sum_below_picked, Contains-here, Contains-there}
use Rattle.bl_whole.proofs.SumLemmas.{Contains-cases}
use Rattle.bl_terms.specs.Points.{values_at, is_among}

pub among_from_Contains : (k : ℕ) (ks : List ℕ) → Contains ks k → is_among k ks ≡ true
among_from_Contains k [] c = absurd (omega (arith, c.1))
among_from_Contains k (j ∷ js) c =
    elim (Contains-cases j k js c) [
      | inl e ↦ grind (arith, nat_tests)
      | inr c' ↦ let i = among_from_Contains k js c' in grind (arith, nat_tests)
    ]

pub Contains-from_among : (k : ℕ) (ks : List ℕ) → is_among k ks ≡ true → Contains ks k
Contains-from_among k [] h = cc
Contains-from_among k (j ∷ js) h = by (λ g. Contains-from_among k js g) (nat_eq k j) refl h
  where
    by : (is_among k js ≡ true → Contains js k) → (t : Bool) → nat_eq k j ≡ t → (t || is_among k js) ≡ true
        → Contains (j ∷ js) k
    by rest true e g = subst (Contains (j ∷ js)) (sym (eqb-true k j e)) (Contains-here j js)
    by rest false e g = Contains-there j k js (rest g)

-- k is in the list or not
pub cases_Contains : (k : ℕ) (ks : List ℕ) → Contains ks k ⊎ (¬ Contains ks k)
cases_Contains k ks =
    elim (cases_Bool (is_among k ks)) [
      | inl t ↦ inl (Contains-from_among k ks t)
      | inr f ↦ inr (λ c. let t = among_from_Contains k ks c in cc)
    ]

-- the element at a place
pub Contains-at : (ks : List ℕ) (j : ℕ) → j < length ks → Contains ks (slice_index ks j)
Contains-at ks j b = (j, b, get_or_default ks j (slice_index ks j) 0 b)

-- a list of places gives the element, by number
pub place_of : (ks : List ℕ) (k : ℕ) → Contains ks k → (j : ℕ) × (j < length ks) × (slice_index ks j ≡ k)
place_of ks k c = (c.0, c.1, get_or_default ks c.0 0 k c.1 ∙ c.2)

-- the number at a place of a list of values
pub values_at-entry : (z : List ℤ) (ks : List ℕ) (j : ℕ) → j < length ks
    → component (values_at z ks) j ≡ component z (slice_index ks j)
values_at-entry z ks j b = get_or-map (λ k. component z k) ks j 0 (pos 0) b

-- the sum over ks of the products at its places
pub dot-values_at : (c z : List ℤ) (ks : List ℕ)
    → dot (values_at c ks) (values_at z ks) ≡ sum_over ks (λ k. component c k *ℤ component z k)
dot-values_at c z ks =
    rw (length-map ks (λ k. component c k))
    (sum_below-agree (length ks) (λ j. component (values_at c ks) j *ℤ component (values_at z ks) j)
    (λ j. component c (slice_index ks j) *ℤ component z (slice_index ks j))
    (λ j b. let e = values_at-entry c ks j b in let f = values_at-entry z ks j b in cc))

-- zs with the numbers of ys at the places ks
abbrev pub put_at : List ℕ → List ℤ → List ℤ → List ℤ
put_at [] ys zs = zs
put_at (k ∷ ks) [] zs = zs
put_at (k ∷ ks) (y ∷ ys) zs = slice_set (put_at ks ys zs) k y

pub length-put_at : (ks : List ℕ) (ys zs : List ℤ) → length (put_at ks ys zs) ≡ length zs
length-put_at [] ys zs = refl
length-put_at (k ∷ ks) [] zs = refl
length-put_at (k ∷ ks) (y ∷ ys) zs = rw length-set (length-put_at ks ys zs)

pub put_at-other : (ks : List ℕ) (ys zs : List ℤ) (j : ℕ) → ¬ Contains ks j
    → component (put_at ks ys zs) j ≡ component zs j
put_at-other [] ys zs j absent = refl
put_at-other (k ∷ ks) [] zs j absent = refl
put_at-other (k ∷ ks) (y ∷ ys) zs j absent =
    let ne : j ≢ k = λ e. absent (subst (Contains (k ∷ ks)) (sym e) (Contains-here k ks)) in
    get_or-set_other (put_at ks ys zs) k j y (pos 0) ne
    ∙ put_at-other ks ys zs j (λ c. absent (Contains-there k j ks c))

pub put_at-same : (ks : List ℕ) (ys zs : List ℤ)
    → ((i j : ℕ) → i < j → j < length ks → slice_index ks i < slice_index ks j)
    → ((k : ℕ) → Contains ks k → k < length zs) → length ys ≡ length ks → (j : ℕ) → j < length ks
    → component (put_at ks ys zs) (slice_index ks j) ≡ component ys j
put_at-same [] ys zs rise below e j b = absurd (omega arith)
put_at-same (k ∷ ks) [] zs rise below e j b = absurd (omega arith)
put_at-same (k ∷ ks) (y ∷ ys) zs rise below e zero b =
    let l = length-put_at ks ys zs in
    let b' = below k (Contains-here k ks) in
    get_or-set_same (put_at ks ys zs) k y (pos 0) (omega arith)
put_at-same (k ∷ ks) (y ∷ ys) zs rise below e (suc j) b =
    let r : k < slice_index ks j = rise 0 (suc j) (omega arith) b in
    let ne : slice_index ks j ≢ k = omega arith in
    get_or-set_other (put_at ks ys zs) k (slice_index ks j) y (pos 0) ne
    ∙ put_at-same ks ys zs (λ i i' a a'. rise (suc i) (suc i') (omega arith) (omega arith))
    (λ i c. below i (Contains-there k i ks c)) (omega arith) j (omega arith)

-- f at the places in ks, and 0 elsewhere; and the other way round
abbrev pub inside : List ℕ → (ℕ → ℤ) → ℕ → ℤ
inside ks f k = cond (is_among k ks) (f k) (pos 0)

abbrev pub outside : List ℕ → (ℕ → ℤ) → ℕ → ℤ
outside ks f k = cond (is_among k ks) (pos 0) (f k)

inside-outside : (ks : List ℕ) (f : ℕ → ℤ) (k : ℕ) → f k ≡ inside ks f k +ℤ outside ks f k
inside-outside ks f k = by (is_among k ks)
  where
    by : (t : Bool) → f k ≡ cond t (f k) (pos 0) +ℤ cond t (pos 0) (f k)
    by true = omega (arith, ints)
    by false = omega (arith, ints)

not_among : (k : ℕ) (ks : List ℕ) → ¬ Contains ks k → is_among k ks ≡ false
not_among k ks absent =
    elim (cases_Bool (is_among k ks)) [ inl t ↦ absurd (absent (Contains-from_among k ks t)) | inr f ↦ f ]

inside-some : (ks : List ℕ) (f : ℕ → ℤ) (k : ℕ) → Contains ks k → inside ks f k ≡ f k
inside-some ks f k m = ap (λ t. cond t (f k) (pos 0)) (among_from_Contains k ks m)

inside-none : (ks : List ℕ) (f : ℕ → ℤ) (k : ℕ) → ¬ Contains ks k → inside ks f k ≡ pos 0
inside-none ks f k absent = ap (λ t. cond t (f k) (pos 0)) (not_among k ks absent)

outside-some : (ks : List ℕ) (f : ℕ → ℤ) (k : ℕ) → Contains ks k → outside ks f k ≡ pos 0
outside-some ks f k m = ap (λ t. cond t (pos 0) (f k)) (among_from_Contains k ks m)

outside-none : (ks : List ℕ) (f : ℕ → ℤ) (k : ℕ) → ¬ Contains ks k → outside ks f k ≡ f k
outside-none ks f k absent = ap (λ t. cond t (pos 0) (f k)) (not_among k ks absent)

-- a sum whose summands are 0 but at the places of two rising lists without a common place is the sum over these lists
pub sum_below_two : (n : ℕ) (ks js : List ℕ) (f : ℕ → ℤ) → IsStrictlyIncreasing ks → IsStrictlyIncreasing js
    → ((k : ℕ) → Contains ks k → k < n) → ((k : ℕ) → Contains js k → k < n)
    → ((k : ℕ) → Contains js k → ¬ Contains ks k)
    → ((k : ℕ) → k < n → ¬ Contains ks k → ¬ Contains js k → f k ≡ pos 0)
    → sum_below n f ≡ sum_over ks f +ℤ sum_over js f
sum_below_two n ks js f rise rise' below below' apart rest =
    let parts : sum_below n f ≡ sum_below n (λ k. inside ks f k +ℤ outside ks f k) =
    sum_below-agree n f (λ k. inside ks f k +ℤ outside ks f k) (λ k b. inside-outside ks f k) in
    let added : sum_below n (λ k. inside ks f k +ℤ outside ks f k) ≡ sum_below n (inside ks f)
    +ℤ sum_below n (outside ks f) =
    sum_below-add n (inside ks f) (outside ks f) in
    let first : sum_below n (inside ks f) ≡ sum_over ks (inside ks f) =
    sum_below_picked n ks (inside ks f) rise below (λ k b absent. inside-none ks f k absent) in
    let second : sum_below n (outside ks f) ≡ sum_over js (outside ks f) =
    sum_below_picked n js (outside ks f) rise' below'
    (λ k b absent. elim (cases_Contains k ks) [
      | inl m ↦ outside-some ks f k m
      | inr absent' ↦ outside-none ks f k absent' ∙ rest k b absent' absent
    ]) in
    let same : sum_over ks (inside ks f) ≡ sum_over ks f =
    sum_below-agree (length ks) (λ j. inside ks f (slice_index ks j)) (λ j. f (slice_index ks j))
    (λ j b. inside-some ks f (slice_index ks j) (Contains-at ks j b)) in
    let same' : sum_over js (outside ks f) ≡ sum_over js f =
    sum_below-agree (length js) (λ j. outside ks f (slice_index js j)) (λ j. f (slice_index js j))
    (λ j b. outside-none ks f (slice_index js j) (apart (slice_index js j) (Contains-at js j b))) in
    cc
