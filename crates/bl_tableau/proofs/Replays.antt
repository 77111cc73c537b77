-- The law of the replay: pivots keep the solutions.
use Rattle.std.proofs.Common.{◌≡◌, ◌≢◌, ℕ, ◌<◌, inl, inr, [], ◌∷◌, ℤ, pos, ◌+ℤ◌, ◌-ℤ◌, ◌*ℤ◌, refl, sym, ap, ◌∙◌}
use Rattle.std.proofs.lemmas.Bool.{cases_eq}
use Rattle.bl_whole.specs.Sums.{sum_below}
use Rattle.bl_whole.specs.Identities.{variable, constant, plus, minus, times}
use Rattle.bl_whole.proofs.IdentityLemmas.{identity}
use Rattle.bl_whole.proofs.SumLemmas.{sum_below-agree, sum_below_isolate, without, without-same, without-other}
use Rattle.bl_tableau.proofs.Scaling.{sum_linear}

-- ---- sums without the pivot column

at_own : (c j : ℕ) (f : ℕ → ℤ) → j ≡ c → without c f j ≡ pos 0
at_own c j f e = ap (without c f) e ∙ without-same c f

-- the pivot row's sum, by its shares
pub sum_share : (n c : ℕ) (a f y : ℕ → ℤ) (m p : ℤ) → c < n → ((j : ℕ) → j < n → j ≢ c → a j *ℤ m ≡ f j *ℤ p)
    → sum_below n (λ j. a j *ℤ y j) *ℤ m ≡ sum_below n (without c (λ j. f j *ℤ y j)) *ℤ p +ℤ (a c *ℤ y c) *ℤ m
sum_share n c a f y m p hc tied =
    let whole = λ (j : ℕ). a j *ℤ y j in
    let shares = λ (j : ℕ). f j *ℤ y j in
    let rest = sum_linear n (without c whole) (without c shares) (λ j. pos 0) m p (pos 0) (λ j l.
    elim (cases_eq j c) [
      | inl e ↦
          ap (λ z. z *ℤ m) (at_own c j whole e)
          ∙ identity (m ∷ p ∷ []) (times (constant (pos 0)) (variable 0))
          (minus (times (constant (pos 0)) (variable 1)) (times (constant (pos 0)) (constant (pos 0)))) refl
          ∙ ap (λ z. z *ℤ p -ℤ pos 0 *ℤ pos 0) (sym (at_own c j shares e))
      | inr ne ↦
          ap (λ z. z *ℤ m) (without-other c j whole ne)
          ∙ identity (a j ∷ y j ∷ m ∷ []) (times (times (variable 0) (variable 1)) (variable 2))
          (times (times (variable 0) (variable 2)) (variable 1)) refl
          ∙ ap (λ z. z *ℤ y j) (tied j l ne)
          ∙ identity (f j ∷ p ∷ y j ∷ []) (times (times (variable 0) (variable 1)) (variable 2))
          (minus (times (times (variable 0) (variable 2)) (variable 1))
          (times (constant (pos 0)) (constant (pos 0)))) refl
          ∙ ap (λ z. z *ℤ p -ℤ pos 0 *ℤ pos 0) (sym (without-other c j shares ne))
    ]) in
    let s = sum_below n (without c whole) in
    let t = sum_below n (without c shares) in
    let zeros = sum_below n (λ j. pos 0) in
    ap (λ z. z *ℤ m) (sum_below_isolate n c whole hc)
    ∙ identity (whole c ∷ s ∷ m ∷ []) (times (plus (variable 0) (variable 1)) (variable 2))
    (plus (times (variable 1) (variable 2)) (times (variable 0) (variable 2))) refl
    ∙ ap (λ z. z +ℤ whole c *ℤ m) rest
    ∙ identity (t ∷ p ∷ zeros ∷ whole c ∷ m ∷ [])
    (plus (minus (times (variable 0) (variable 1)) (times (constant (pos 0)) (variable 2)))
    (times (variable 3) (variable 4)))
    (plus (times (variable 0) (variable 1)) (times (variable 3) (variable 4))) refl

without_agree : (c j : ℕ) (f g : ℕ → ℤ) → (j ≢ c → f j ≡ g j) → without c f j ≡ without c g j
without_agree c j f g h =
    elim (cases_eq j c) [
      | inl e ↦ at_own c j f e ∙ sym (at_own c j g e)
      | inr ne ↦ without-other c j f ne ∙ h ne ∙ sym (without-other c j g ne)
    ]

-- the sum over values that differ at the pivot column alone
pub sum_new : (n c : ℕ) (f y x : ℕ → ℤ) → c < n → ((j : ℕ) → j < n → j ≢ c → x j ≡ y j)
    → sum_below n (λ j. f j *ℤ x j) ≡ f c *ℤ x c +ℤ sum_below n (without c (λ j. f j *ℤ y j))
sum_new n c f y x hc same =
    sum_below_isolate n c (λ j. f j *ℤ x j) hc
    ∙ ap (λ z. f c *ℤ x c +ℤ z)
    (sum_below-agree n (without c (λ j. f j *ℤ x j)) (without c (λ j. f j *ℤ y j))
    (λ j l. without_agree c j (λ k. f k *ℤ x k) (λ k. f k *ℤ y k) (λ ne. ap (λ z. f j *ℤ z) (same j l ne))))

-- another row's sum after the pivot
pub sum_remainder : (n c : ℕ) (v a f y x : ℕ → ℤ) (m e w : ℤ) → c < n
    → ((j : ℕ) → j < n → j ≢ c → v j *ℤ m ≡ a j *ℤ m -ℤ e *ℤ f j) → ((j : ℕ) → j < n → j ≢ c → x j ≡ y j) → v c *ℤ m ≡ w
    → sum_below n (λ j. v j *ℤ x j) *ℤ m ≡ w *ℤ x c
    +ℤ (sum_below n (without c (λ j. a j *ℤ y j)) *ℤ m -ℤ e *ℤ sum_below n (without c (λ j. f j *ℤ y j)))
sum_remainder n c v a f y x m e w hc tied same own =
    let new = λ (j : ℕ). v j *ℤ y j in
    let old = λ (j : ℕ). a j *ℤ y j in
    let shares = λ (j : ℕ). f j *ℤ y j in
    let s = sum_below n (without c new) in
    let rest = sum_linear n (without c new) (without c old) (without c shares) m m e (λ j l.
    elim (cases_eq j c) [
      | inl at ↦
          ap (λ z. z *ℤ m) (at_own c j new at)
          ∙ identity (m ∷ e ∷ []) (times (constant (pos 0)) (variable 0))
          (minus (times (constant (pos 0)) (variable 0)) (times (variable 1) (constant (pos 0)))) refl
          ∙ ap (λ z. z *ℤ m -ℤ e *ℤ pos 0) (sym (at_own c j old at))
          ∙ ap (λ z. without c old j *ℤ m -ℤ e *ℤ z) (sym (at_own c j shares at))
      | inr ne ↦
          ap (λ z. z *ℤ m) (without-other c j new ne)
          ∙ identity (v j ∷ y j ∷ m ∷ []) (times (times (variable 0) (variable 1)) (variable 2))
          (times (times (variable 0) (variable 2)) (variable 1)) refl
          ∙ ap (λ z. z *ℤ y j) (tied j l ne)
          ∙ identity (a j ∷ m ∷ e ∷ f j ∷ y j ∷ [])
          (times (minus (times (variable 0) (variable 1)) (times (variable 2) (variable 3))) (variable 4))
          (minus (times (times (variable 0) (variable 4)) (variable 1))
          (times (variable 2) (times (variable 3) (variable 4)))) refl
          ∙ ap (λ z. z *ℤ m -ℤ e *ℤ shares j) (sym (without-other c j old ne))
          ∙ ap (λ z. without c old j *ℤ m -ℤ e *ℤ z) (sym (without-other c j shares ne))
    ]) in
    ap (λ z. z *ℤ m) (sum_new n c v y x hc same)
    ∙ identity (v c ∷ x c ∷ s ∷ m ∷ []) (times (plus (times (variable 0) (variable 1)) (variable 2)) (variable 3))
    (plus (times (times (variable 0) (variable 3)) (variable 1)) (times (variable 2) (variable 3))) refl
    ∙ ap (λ z. z *ℤ x c +ℤ s *ℤ m) own ∙ ap (λ z. w *ℤ x c +ℤ z) rest
