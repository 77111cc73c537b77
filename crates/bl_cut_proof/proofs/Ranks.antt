-- Fewer equations than unknowns have a solution that isn't 0 everywhere.
use Rattle.std.proofs.Common.{◌≡◌, ◌≢◌, ℕ, zero, suc, ◌<◌, refl, sym, ◌∙◌, ap, subst, arith, cond, List, [], ◌∷◌}
use Rattle.std.proofs.Common.{length, ◌⊎◌, inl, inr}
use Rattle.std.specs.Prelude.{All, ℤ, pos, negsuc, neg_ℤ, ◌+ℤ◌, ◌-ℤ◌, ◌*ℤ◌, nat_eq}
use Rattle.std.proofs.Math.IntN.{zero-*ℤ, *ℤ-zero}
use Rattle.std.proofs.lemmas.Int.{ints}
use Rattle.std.proofs.lemmas.Bool.{cases_lt, cases_eq}
use Rattle.std.proofs.lemmas.Bool.Decides.{nat_tests}
use Rattle.bl_whole.specs.Sums.{component, sum_below}
use Rattle.bl_whole.specs.Identities.{variable, plus, minus, times, constant}
use Rattle.bl_whole.proofs.IdentityLemmas.{identity}
use Rattle.bl_whole.proofs.SumLemmas.{sum_below-agree, sum_below-zero, sum_below-add, sum_below-scale}
use Rattle.bl_whole.proofs.SumLemmas.{sum_below_isolate, without, without-same, without-other}
use Rattle.bl_whole.proofs.Products.{neg_ℤ-*ℤ, *ℤ-neg_ℤ, mul_positive}
use Rattle.bl_terms.specs.Points.{Linear}
use Rattle.bl_terms.specs.Bounds.{linear_at}
use Rattle.bl_cut_terms.specs.NoGoods.{IsUnitFrom, IsUnit, combined, unit_at, Inverts}

-- ---- products of numbers other than 0

pub product_nonzero : (a b : ℤ) → a ≢ pos 0 → b ≢ pos 0 → a *ℤ b ≢ pos 0
product_nonzero (pos zero) b p q e = p refl
product_nonzero (pos (suc m)) (pos zero) p q e = q refl
product_nonzero (pos (suc m)) (pos (suc n)) p q e =
    let g = mul_positive {a = pos (suc m)} {b = pos (suc n)} (omega (arith, ints)) (omega (arith, ints)) in
    omega (arith, ints)
product_nonzero (pos (suc m)) (negsuc n) p q e =
    let g = mul_positive {a = pos (suc m)} {b = neg_ℤ (negsuc n)} (omega (arith, ints)) (omega (arith, ints)) in
    let f = *ℤ-neg_ℤ (pos (suc m)) (negsuc n) in
    omega (arith, ints)
product_nonzero (negsuc m) (pos zero) p q e = q refl
product_nonzero (negsuc m) (pos (suc n)) p q e =
    let g = mul_positive {a = neg_ℤ (negsuc m)} {b = pos (suc n)} (omega (arith, ints)) (omega (arith, ints)) in
    let f = neg_ℤ-*ℤ (negsuc m) (pos (suc n)) in
    omega (arith, ints)
product_nonzero (negsuc m) (negsuc n) p q e =
    let g = mul_positive {a = neg_ℤ (negsuc m)} {b = neg_ℤ (negsuc n)} (omega (arith, ints)) (omega (arith, ints)) in
    let f = neg_ℤ-*ℤ (negsuc m) (neg_ℤ (negsuc n)) in
    let h = *ℤ-neg_ℤ (negsuc m) (negsuc n) in
    omega (arith, ints)

zero_or_not : (z : ℤ) → (z ≡ pos 0) ⊎ (z ≢ pos 0)
zero_or_not (pos zero) = inl refl
zero_or_not (pos (suc n)) = inr (λ e. cc)
zero_or_not (negsuc n) = inr (λ e. cc)

-- a place below m where f isn't 0
record HasNonzero (m : ℕ) (f : ℕ → ℤ) : Type 0 where
  place : ℕ
  below : place < m
  nonzero : f place ≢ pos 0

any_nonzero : (m : ℕ) (f : ℕ → ℤ) → ((i : ℕ) → i < m → f i ≡ pos 0) ⊎ HasNonzero m f
any_nonzero zero f = inl (λ i b. absurd (omega arith))
any_nonzero (suc m) f = by (any_nonzero m f) (zero_or_not (f m))
  where
    by : ((i : ℕ) → i < m → f i ≡ pos 0) ⊎ HasNonzero m f → (f m ≡ pos 0) ⊎ (f m ≢ pos 0)
        → ((i : ℕ) → i < suc m → f i ≡ pos 0) ⊎ HasNonzero (suc m) f
    by (inr h) last = inr (record { place = h.place; below = let b = h.below in omega arith; nonzero = h.nonzero })
    by (inl all) (inr ne) = inr (record { place = m; below = omega arith; nonzero = ne })
    by (inl all) (inl e) = inl (λ i b. elim (cases_lt i m) [
      | inl c ↦ all i c
      | inr c ↦ let same : i ≡ m = omega arith in ap f same ∙ e
    ])

-- ---- equations

-- numbers for n unknowns, not all 0, that solve m equations with right sides 0
pub record HasSolution (m n : ℕ) (c : ℕ → ℕ → ℤ) : Type 0 where
  pub x : ℕ → ℤ
  pub place : ℕ
  pub below : place < n
  pub nonzero : x place ≢ pos 0
  pub solves : (i : ℕ) → i < m → sum_below n (λ j. c i j *ℤ x j) ≡ pos 0

-- the numbers y times p, and the last one by itself
abbrev with_last : ℕ → ℤ → (ℕ → ℤ) → ℤ → ℕ → ℤ
with_last n p y last j = cond (nat_eq j n) last (p *ℤ y j)

last_here : (n : ℕ) (p : ℤ) (y : ℕ → ℤ) (last : ℤ) → with_last n p y last n ≡ last
last_here n p y last = grind (arith, nat_tests)

last_other : (n : ℕ) (p : ℤ) (y : ℕ → ℤ) (last : ℤ) (j : ℕ) → j < n → with_last n p y last j ≡ p *ℤ y j
last_other n p y last j b = grind (arith, nat_tests)

-- of m + 1 places the one that takes the place k where i is left out
abbrev pub other_place : ℕ → ℕ → ℕ → ℕ
other_place m i k = cond (nat_eq k i) m k

-- what holds of these holds of each place but i
pub at_others : (P : ℕ → Type 0) (m i : ℕ) → i < suc m → ((k : ℕ) → k < m → P (other_place m i k)) → (k : ℕ) → k < suc m
    → k ≢ i → P k
at_others P m i b each k c ne = elim (cases_eq k m) [
  | inl e ↦
      let here : other_place m i i ≡ m = grind (arith, nat_tests) in
      subst P (here ∙ sym e) (each i (omega arith))
  | inr ne' ↦
      let here : other_place m i k ≡ k = grind (arith, nat_tests) in
      subst P here (each k (omega arith))
]

-- an equation without its last unknown, by another one that has it
abbrev reduced : (ℕ → ℕ → ℤ) → ℕ → ℕ → ℕ → ℕ → ℤ
reduced c n i r j = c i n *ℤ c r j -ℤ c r n *ℤ c i j

-- an equation at the numbers y, times the coefficient of the last unknown, with that unknown by equation i
reduced_sum : (c : ℕ → ℕ → ℤ) (n i r : ℕ) (y : ℕ → ℤ)
    → sum_below (suc n) (λ j. c r j *ℤ with_last n (c i n) y (neg_ℤ (sum_below n (λ k. c i k *ℤ y k))) j)
    ≡ sum_below n (λ j. reduced c n i r j *ℤ y j)
reduced_sum c n i r y =
    let p = c i n in
    let q = c r n in
    let s = sum_below n (λ k. c i k *ℤ y k) in
    let last = neg_ℤ s in
    let front : sum_below n (λ j. c r j *ℤ with_last n p y last j) ≡ p *ℤ sum_below n (λ j. c r j *ℤ y j) =
    sum_below-agree n (λ j. c r j *ℤ with_last n p y last j) (λ j. p *ℤ (c r j *ℤ y j))
    (λ j b. ap (λ z. c r j *ℤ z) (last_other n p y last j b)
    ∙ identity (c r j ∷ p ∷ y j ∷ []) (times (variable 0) (times (variable 1) (variable 2)))
    (times (variable 1) (times (variable 0) (variable 2))) refl)
    ∙ sum_below-scale n p (λ j. c r j *ℤ y j) in
    let back : c r n *ℤ with_last n p y last n ≡ neg_ℤ (q *ℤ s) =
    ap (λ z. q *ℤ z) (last_here n p y last) ∙ *ℤ-neg_ℤ q s in
    let split : sum_below n (λ j. reduced c n i r j *ℤ y j)
    ≡ sum_below n (λ j. p *ℤ (c r j *ℤ y j) +ℤ neg_ℤ q *ℤ (c i j *ℤ y j)) =
    sum_below-agree n (λ j. reduced c n i r j *ℤ y j) (λ j. p *ℤ (c r j *ℤ y j) +ℤ neg_ℤ q *ℤ (c i j *ℤ y j))
    (λ j b. let g = neg_ℤ-*ℤ q (c i j *ℤ y j) in
    let f : (p *ℤ c r j -ℤ q *ℤ c i j) *ℤ y j ≡ p *ℤ (c r j *ℤ y j) -ℤ q *ℤ (c i j *ℤ y j) =
    identity (p ∷ c r j ∷ q ∷ c i j ∷ y j ∷ [])
    (times (minus (times (variable 0) (variable 1)) (times (variable 2) (variable 3))) (variable 4))
    (minus (times (variable 0) (times (variable 1) (variable 4)))
    (times (variable 2) (times (variable 3) (variable 4)))) refl in
    omega (arith, ints)) in
    let add = sum_below-add n (λ j. p *ℤ (c r j *ℤ y j)) (λ j. neg_ℤ q *ℤ (c i j *ℤ y j)) in
    let one = sum_below-scale n p (λ j. c r j *ℤ y j) in
    let two = sum_below-scale n (neg_ℤ q) (λ j. c i j *ℤ y j) in
    let three = neg_ℤ-*ℤ q s in
    omega (arith, ints)

-- fewer equations than unknowns have a solution
pub solution : (m n : ℕ) (c : ℕ → ℕ → ℤ) → m < n → HasSolution m n c
solution m zero c h = absurd (omega arith)
solution zero (suc n) c h = record {
  x = λ j. pos 1;
  place = n;
  below = omega arith;
  nonzero = λ e. cc;
  solves = λ i b. absurd (omega arith);
}
solution (suc m) (suc n) c h = by (any_nonzero (suc m) (λ i. c i n)) (λ d. solution m n d (omega arith))
  where
    by : ((i : ℕ) → i < suc m → c i n ≡ pos 0) ⊎ HasNonzero (suc m) (λ i. c i n)
        → ((d : ℕ → ℕ → ℤ) → HasSolution m n d) → HasSolution (suc m) (suc n) c
    by (inl all) smaller =
        let x = with_last n (pos 0) (λ j. pos 0) (pos 1) in
        let here : x n ≡ pos 1 = last_here n (pos 0) (λ j. pos 0) (pos 1) in
        record {
          x = x;
          place = n;
          below = omega arith;
          nonzero = λ e. omega (arith, ints);
          solves = λ i b.
              let front = sum_below-zero n (λ j. c i j *ℤ x j)
              (λ j l. ap (λ z. c i j *ℤ z) (last_other n (pos 0) (λ k. pos 0) (pos 1) j l) ∙ *ℤ-zero (c i j)) in
              let back : c i n *ℤ x n ≡ pos 0 = ap (λ z. z *ℤ x n) (all i b) ∙ zero-*ℤ (x n) in
              omega (arith, ints);
        }
    by (inr found) smaller =
        let i = found.place in
        let p = c i n in
        let rest = smaller (λ k. reduced c n i (other_place m i k)) in
        let y = rest.x in
        let last = neg_ℤ (sum_below n (λ k. c i k *ℤ y k)) in
        let x = with_last n p y last in
        let P : ℕ → Type 0 = λ r. sum_below n (λ j. reduced c n i r j *ℤ y j) ≡ pos 0 in
        let each : (r : ℕ) → r < suc m → P r =
        λ r b. elim (cases_eq r i) [
          | inl e ↦ subst P (sym e) (sum_below-zero n (λ j. reduced c n i i j *ℤ y j)
              (λ j l. identity (p ∷ c i j ∷ y j ∷ [])
              (times (minus (times (variable 0) (variable 1)) (times (variable 0) (variable 1))) (variable 2))
              (constant (pos 0)) refl))
          | inr ne ↦ at_others P m i found.below rest.solves r b ne
        ] in
        record {
          x = x;
          place = rest.place;
          below = let b = rest.below in omega arith;
          nonzero = λ e. product_nonzero p (y rest.place) found.nonzero rest.nonzero
              (sym (last_other n p y last rest.place rest.below) ∙ e);
          solves = λ r b. reduced_sum c n i r y ∙ each r b;
        }

-- ---- rows that are inverted

-- numbers that solve rows with right sides 0 solve each combination of them
combined_solves : (rows : List Linear) (n count least : ℕ) (x : ℕ → ℤ) (unit : List (ℕ × ℤ))
    → IsUnitFrom least count unit
    → ((i : ℕ) → i < count → sum_below n (λ k. component (linear_at rows i).coef k *ℤ x k) ≡ pos 0)
    → sum_below n (λ k. combined rows unit k *ℤ x k) ≡ pos 0
combined_solves rows n count least x [] h each = sum_below-zero n (λ k. pos 0 *ℤ x k) (λ k b. zero-*ℤ (x k))
combined_solves rows n count least x ((i, m) ∷ unit) h each =
    let f : ℕ → ℤ = λ k. component (linear_at rows i).coef k *ℤ x k in
    let g : ℕ → ℤ = λ k. combined rows unit k *ℤ x k in
    let rest : sum_below n g ≡ pos 0 = combined_solves rows n count (suc i) x unit h.1 each in
    let split : sum_below n (λ k. combined rows ((i, m) ∷ unit) k *ℤ x k) ≡ sum_below n (λ k. m *ℤ f k +ℤ g k) =
    sum_below-agree n (λ k. combined rows ((i, m) ∷ unit) k *ℤ x k) (λ k. m *ℤ f k +ℤ g k)
    (λ k b. identity (m ∷ component (linear_at rows i).coef k ∷ combined rows unit k ∷ x k ∷ [])
    (times (plus (times (variable 0) (variable 1)) (variable 2)) (variable 3))
    (plus (times (variable 0) (times (variable 1) (variable 3))) (times (variable 2) (variable 3))) refl) in
    let add = sum_below-add n (λ k. m *ℤ f k) g in
    let scale : sum_below n (λ k. m *ℤ f k) ≡ pos 0 =
    sum_below-scale n m f ∙ ap (λ z. m *ℤ z) (each i h.0.1) ∙ *ℤ-zero m in
    omega (arith, ints)

-- as many rows as columns that are inverted have different coefficients
pub rows_apart : (n : ℕ) (rows : List Linear) (den : ℤ) (units : List (List (ℕ × ℤ))) → Inverts n rows den units
    → den ≢ pos 0 → length units ≡ n → All (IsUnit n) units → (i j : ℕ) → i < n → j < n
    → (linear_at rows i).coef ≡ (linear_at rows j).coef → i ≡ j
rows_apart zero rows den units inverts nonzero count are i j b c e = absurd (omega arith)
rows_apart (suc m) rows den units inverts nonzero count are i j b c e = elim (cases_eq i j) [
  | inl same ↦ same
  | inr other ↦
      let n = suc m in
      let row : ℕ → ℕ → ℤ = λ r k. component (linear_at rows r).coef k in
      let found = solution m n (λ k. row (other_place m j k)) (omega arith) in
      let x = found.x in
      let P : ℕ → Type 0 = λ r. sum_below n (λ k. row r k *ℤ x k) ≡ pos 0 in
      let others : (r : ℕ) → r < n → r ≢ j → P r = at_others P m j c found.solves in
      let here : P j =
      subst (λ (coef : List ℤ). sum_below n (λ k. component coef k *ℤ x k) ≡ pos 0) e (others i b other) in
      let each : (r : ℕ) → r < n → P r = λ r l. elim (cases_eq r j) [
        | inl same ↦ subst P (sym same) here
        | inr ne ↦ others r l ne
      ] in
      let q = found.place in
      let unit = unit_at units q in
      let below = found.below in
      let zero_sum = combined_solves rows n n 0 x unit (are q [] (omega arith)) each in
      let f : ℕ → ℤ = λ k. cond (nat_eq q k) den (pos 0) *ℤ x k in
      let same_sum : sum_below n (λ k. combined rows unit k *ℤ x k) ≡ sum_below n f =
      sum_below-agree n (λ k. combined rows unit k *ℤ x k) f
      (λ k l. ap (λ z. z *ℤ x k) (inverts.each q k below l)) in
      let rest = sum_below-zero n (without q f) (λ k l. elim (cases_eq k q) [
        | inl same ↦ ap (without q f) same ∙ without-same q f
        | inr ne ↦
            let off : cond (nat_eq q k) den (pos 0) ≡ pos 0 = grind (arith, nat_tests) in
            without-other q k f ne ∙ ap (λ z. z *ℤ x k) off ∙ zero-*ℤ (x k)
      ]) in
      let one = sum_below_isolate n q f below in
      let on : cond (nat_eq q q) den (pos 0) ≡ den = grind (arith, nat_tests) in
      let it : f q ≡ den *ℤ x q = ap (λ z. z *ℤ x q) on in
      absurd (product_nonzero den (x q) nonzero found.nonzero (omega (arith, ints)))
]
