-- n different numbers below n are all of them.
use Rattle.std.proofs.Common.{◌≡◌, ◌≢◌, ℕ, zero, suc, ◌<◌, ◌⊎◌, inl, inr, refl, sym, ◌∙◌, arith}
use Rattle.std.proofs.Common.{true, false, nat_eq}
use Rattle.std.specs.Prelude.{if◌then◌else◌}
use Rattle.std.proofs.lemmas.Bool.{cases_eq}
use Rattle.std.proofs.lemmas.Bool.Decides.{nat_tests}

-- different numbers below n
pub record AreDifferent (n : ℕ) (f : ℕ → ℕ) : Type 0 where
  pub below : (i : ℕ) → i < n → f i < n
  pub different : (i j : ℕ) → i < n → j < n → f i ≡ f j → i ≡ j

-- the value v in place of n
moved : ℕ → ℕ → ℕ → ℕ
moved n v x = if nat_eq x n then v else x

moved_at : (n v x : ℕ) → x ≡ n → moved n v x ≡ v
unfolding moved
moved_at n v x h = let e : nat_eq x n ≡ true = grind (arith, nat_tests) in rw e refl

moved_other : (n v x : ℕ) → x ≢ n → moved n v x ≡ x
unfolding moved
moved_other n v x h = let e : nat_eq x n ≡ false = grind (arith, nat_tests) in rw e refl

fewer : (n : ℕ) (f : ℕ → ℕ) → AreDifferent (suc n) f → AreDifferent n (λ i. moved n (f n) (f i))
fewer n f h = record {
  below = λ i l.
      elim (cases_eq (f i) n) [
        | inl e ↦
            let other : f n ≢ n =
            λ k. absurd (omega (arith, h.different i n (omega arith) (omega arith) (e ∙ sym k))) in
            omega (arith, moved_at n (f n) (f i) e, h.below n (omega arith), other)
        | inr ne ↦ omega (arith, moved_other n (f n) (f i) ne, h.below i (omega arith), ne)
      ];
  different = λ i j li lj same.
      elim (cases_eq (f i) n) [
        | inl e ↦ elim (cases_eq (f j) n) [
          | inl k ↦ h.different i j (omega arith) (omega arith) (e ∙ sym k)
          | inr nk ↦
              let at : f n ≡ f j = sym (moved_at n (f n) (f i) e) ∙ same ∙ moved_other n (f n) (f j) nk in
              absurd (omega (arith, h.different n j (omega arith) (omega arith) at))
        ]
        | inr ne ↦ elim (cases_eq (f j) n) [
          | inl k ↦
              let at : f i ≡ f n = sym (moved_other n (f n) (f i) ne) ∙ same ∙ moved_at n (f n) (f j) k in
              absurd (omega (arith, h.different i n (omega arith) (omega arith) at))
          | inr nk ↦
              h.different i j (omega arith) (omega arith)
              (sym (moved_other n (f n) (f i) ne) ∙ same ∙ moved_other n (f n) (f j) nk)
        ]
      ];
}

pub place_of_value : (n : ℕ) (f : ℕ → ℕ) → AreDifferent n f → (j : ℕ) → j < n → (i : ℕ) × (i < n) × (f i ≡ j)
place_of_value zero f h j l = absurd (omega arith)
place_of_value (suc n) f h j l =
    by (λ v b. place_of_value n (λ i. moved n (f n) (f i)) (fewer n f h) v b) (cases_eq (f n) j)
  where
    found : ℕ → Type 0
    found v = (i : ℕ) × (i < n) × (moved n (f n) (f i) ≡ v)

    at_value : (v : ℕ) → f n ≢ v → v ≢ n → found v → (i : ℕ) × (i < suc n) × (f i ≡ v)
    at_value v other small (i, b, e) =
        elim (cases_eq (f i) n) [
          | inl k ↦ absurd (other (sym (moved_at n (f n) (f i) k) ∙ e))
          | inr nk ↦ (i, omega arith, sym (moved_other n (f n) (f i) nk) ∙ e)
        ]

    at_last : f n ≢ n → found (f n) → (i : ℕ) × (i < suc n) × (f i ≡ n)
    at_last other (i, b, e) =
        elim (cases_eq (f i) n) [
          | inl k ↦ (i, omega arith, k)
          | inr nk ↦
              let same : f i ≡ f n = sym (moved_other n (f n) (f i) nk) ∙ e in
              absurd (omega (arith, h.different i n (omega arith) (omega arith) same))
        ]

    by : ((v : ℕ) → v < n → found v) → (f n ≡ j) ⊎ (f n ≢ j) → (i : ℕ) × (i < suc n) × (f i ≡ j)
    by there (inl e) = (n, omega arith, e)
    by there (inr other) =
        elim (cases_eq j n) [
          | inl last ↦
              let no : f n ≢ n = λ k. other (k ∙ sym last) in
              let got = at_last no (there (f n) (omega (arith, h.below n (omega arith), no))) in
              (got.0, got.1, got.2 ∙ sym last)
          | inr small ↦
              at_value j other small (there j (omega (arith, l, small)))
        ]
