-- A sum by place regrouped by label: each label counts once, with the coefficient of the place that it labels.
use Rattle.std.proofs.Common.{◌≡◌, ◌≢◌, ℕ, zero, suc, ◌<◌, inl, inr, Bool, true, false, cond, ℤ, pos, ◌+ℤ◌, ◌*ℤ◌}
use Rattle.std.proofs.Common.{refl, sym, ap, ◌∙◌, arith}
use Rattle.std.specs.Prelude.{Option, Some, None, unwrap_or, option_map, ◌==◌}
use Rattle.std.proofs.Math.IntN.{zero-*ℤ}
use Rattle.std.proofs.lemmas.Int.{ints}
use Rattle.std.proofs.lemmas.Bool.{cases_eq}
use Rattle.bl_whole.specs.Sums.{sum_below}
use Rattle.bl_whole.proofs.SumLemmas.{without, without-same, without-other, sum_below_isolate, sum_below-agree}
use Rattle.bl_whole.proofs.SumLemmas.{sum_below-zero}
use Rattle.bl_simplex.specs.Closing.{labelled}
use Rattle.bl_tableau.proofs.RowSteps.{test_same, test_other}

-- the coefficient of the variable l: that of the place below n that it labels, else what `base` says
abbrev pub coefficient : ℕ → (ℕ → ℤ) → (ℕ → ℕ) → (ℕ → ℤ) → ℕ → ℤ
coefficient n g label base l = unwrap_or (option_map g (labelled n label l)) (base l)

found_here : (n : ℕ) (g : ℕ → ℤ) (label : ℕ → ℕ) (base : ℕ → ℤ)
    → coefficient (suc n) g label base (label n) ≡ g n
found_here n g label base = rw (test_same (label n)) refl

found_before : (n : ℕ) (g : ℕ → ℤ) (label : ℕ → ℕ) (base : ℕ → ℤ) (l : ℕ) → label n ≢ l
    → coefficient (suc n) g label base l ≡ coefficient n g label base l
found_before n g label base l ne = rw (test_other (label n) l ne) refl

pub coefficient_of_none : (n : ℕ) (g : ℕ → ℤ) (label : ℕ → ℕ) (base : ℕ → ℤ) (l : ℕ)
    → ((j : ℕ) → j < n → label j ≢ l) → coefficient n g label base l ≡ base l
coefficient_of_none zero g label base l none = refl
coefficient_of_none (suc n) g label base l none =
    found_before n g label base l (none n (omega arith))
    ∙ coefficient_of_none n g label base l (λ j h. none j (omega arith))

-- a property of what is looked up by label, from those of the places and of what stands for none
pub each_found : {A : Type 0} (P : A → Type 0) (n : ℕ) (p : ℕ → A) (label : ℕ → ℕ) (l : ℕ) (x : A)
    → ((j : ℕ) → j < n → P (p j)) → P x → P (unwrap_or (option_map p (labelled n label l)) x)
each_found P zero p label l x each last = last
each_found P (suc n) p label l x each last =
    by (label n == l) (each_found P n p label l x (λ j h. each j (omega arith)) last)
  where
    by : (t : Bool) → P (unwrap_or (option_map p (labelled n label l)) x)
        → P (unwrap_or (option_map p (cond t (Some n) (labelled n label l))) x)
    by true before = each n (omega arith)
    by false before = before

-- a sum with one summand other than 0
pub sum_of_one : (n k : ℕ) (f : ℕ → ℤ) → k < n → ((l : ℕ) → l < n → l ≢ k → f l ≡ pos 0) → sum_below n f ≡ f k
sum_of_one n k f h zeros =
    let i = sum_below_isolate n k f h in
    let z = sum_below-zero n (without k f) (λ l b.
    elim (cases_eq l k) [
      | inl e ↦ ap (without k f) e ∙ without-same k f
      | inr ne ↦ without-other k l f ne ∙ zeros l b ne
    ]) in
    omega (arith, ints)

-- the factor where the label is k, else 0
abbrev pub at_label : ℕ → ℤ → ℕ → ℤ
at_label k m l = cond (k == l) m (pos 0)

pub at_label_same : (k : ℕ) (m : ℤ) → at_label k m k ≡ m
at_label_same k m = ap (λ t. cond t m (pos 0)) (test_same k)

pub at_label_other : (k : ℕ) (m : ℤ) (l : ℕ) → k ≢ l → at_label k m l ≡ pos 0
at_label_other k m l ne = ap (λ t. cond t m (pos 0)) (test_other k l ne)

sum_at_label : (n k : ℕ) (m : ℤ) (v : ℕ → ℤ) → k < n → sum_below n (λ l. at_label k m l *ℤ v l) ≡ m *ℤ v k
sum_at_label n k m v h =
    sum_of_one n k (λ l. at_label k m l *ℤ v l) h
    (λ l b ne. ap (λ x. x *ℤ v l) (at_label_other k m l (λ e. ne (sym e))) ∙ zero-*ℤ (v l))
    ∙ ap (λ x. x *ℤ v k) (at_label_same k m)

-- labels that are apart, below the count of variables, and none of which `base` counts
pub record AreApart (n count : ℕ) (label : ℕ → ℕ) (base : ℕ → ℤ) : Type 0 where
  pub apart : (j k : ℕ) → j < n → k < n → label j ≡ label k → j ≡ k
  pub below : (j : ℕ) → j < n → label j < count
  pub uncounted : (j : ℕ) → j < n → base (label j) ≡ pos 0

fewer : (n count : ℕ) (label : ℕ → ℕ) (base : ℕ → ℤ) → AreApart (suc n) count label base → AreApart n count label base
fewer n count label base h = record {
  apart = λ j k hj hk e. h.apart j k (omega arith) (omega arith) e;
  below = λ j hj. h.below j (omega arith);
  uncounted = λ j hj. h.uncounted j (omega arith);
}

-- one more place: its label counted for nothing before
one_more : (n count : ℕ) (g : ℕ → ℤ) (label : ℕ → ℕ) (base v : ℕ → ℤ) → AreApart (suc n) count label base
    → sum_below count (λ l. coefficient (suc n) g label base l *ℤ v l)
    ≡ sum_below count (λ l. coefficient n g label base l *ℤ v l) +ℤ g n *ℤ v (label n)
one_more n count g label base v h =
    let k = label n in
    let new : ℕ → ℤ = λ l. coefficient (suc n) g label base l *ℤ v l in
    let old : ℕ → ℤ = λ l. coefficient n g label base l *ℤ v l in
    let below : k < count = h.below n (omega arith) in
    let none : coefficient n g label base k ≡ pos 0 =
    coefficient_of_none n g label base k
    (λ j hj e. let same : j ≡ n = h.apart j n (omega arith) (omega arith) e in absurd (omega arith))
    ∙ h.uncounted n (omega arith) in
    let before : old k ≡ pos 0 = ap (λ x. x *ℤ v k) none ∙ zero-*ℤ (v k) in
    let after : new k ≡ g n *ℤ v k = ap (λ x. x *ℤ v k) (found_here n g label base) in
    let rest : sum_below count (without k new) ≡ sum_below count (without k old) =
    sum_below-agree count (without k new) (without k old) (λ l b.
    elim (cases_eq l k) [
      | inl e ↦ ap (without k new) e ∙ without-same k new ∙ sym (without-same k old) ∙ ap (without k old) (sym e)
      | inr ne ↦ without-other k l new ne
          ∙ ap (λ x. x *ℤ v l) (found_before n g label base l (λ e. ne (sym e)))
          ∙ sym (without-other k l old ne)
    ]) in
    let i = sum_below_isolate count k new below in
    let j = sum_below_isolate count k old below in
    omega (arith, ints)

pub regrouped : (n count : ℕ) (g : ℕ → ℤ) (label : ℕ → ℕ) (base v : ℕ → ℤ) → AreApart n count label base
    → sum_below count (λ l. coefficient n g label base l *ℤ v l)
    ≡ sum_below n (λ j. g j *ℤ v (label j)) +ℤ sum_below count (λ l. base l *ℤ v l)
regrouped zero count g label base v h = omega (arith, ints)
regrouped (suc n) count g label base v h =
    let i = regrouped n count g label base v (fewer n count label base h) in
    let e = one_more n count g label base v h in
    omega (arith, ints)

-- the places, and one more factor at a label of its own
pub regrouped_with : (n count k : ℕ) (m : ℤ) (g : ℕ → ℤ) (label : ℕ → ℕ) (v : ℕ → ℤ) → k < count
    → AreApart n count label (at_label k m)
    → sum_below count (λ l. coefficient n g label (at_label k m) l *ℤ v l)
    ≡ sum_below n (λ j. g j *ℤ v (label j)) +ℤ m *ℤ v k
regrouped_with n count k m g label v inside h =
    regrouped n count g label (at_label k m) v h
    ∙ ap (λ x. sum_below n (λ j. g j *ℤ v (label j)) +ℤ x) (sum_at_label count k m v inside)

-- what is looked up and then read is what is read where it is looked up
pub read_found : {A B : Type 0} (f : A → B) (p : ℕ → A) (o : Option ℕ) (x : A)
    → f (unwrap_or (option_map p o) x) ≡ unwrap_or (option_map (λ j. f (p j)) o) (f x)
read_found f p None x = refl
read_found f p (Some j) x = refl
