-- Rational numbers over one common denominator, as whole numbers.
use Rattle.std.proofs.Common.{◌≡◌, ℕ, zero, suc, ◌*◌, ◌/◌, ◌<◌, [], ◌∷◌, ℤ, pos, negsuc, neg_ℤ, ◌+ℤ◌, ◌-ℤ◌, ◌*ℤ◌, ◌≤ℤ◌}
use Rattle.std.proofs.Common.{◌<ℤ◌, inl, inr, refl, sym, ap, ◌∙◌, subst, arith}
use Rattle.std.specs.Int.{◌∣◌}
use Rattle.std.proofs.Math.Nat.{div-mul_cancel, mul-lt-mul_of_pos_right, dvd-mul_left, dvd-mul_right_of_dvd}
use Rattle.std.proofs.lemmas.Bool.{cases_eq}
use Rattle.std.proofs.Math.IntN.{*ℤ_comm, pos-*ℤ-pos}
use Rattle.std.proofs.lemmas.Int.{ints}
use Rattle.bl_whole.specs.Sums.{sum_below}
use Rattle.bl_whole.specs.Identities.{variable, constant, plus, minus, times}
use Rattle.bl_whole.proofs.IdentityLemmas.{identity}
use Rattle.bl_whole.proofs.Products.{*ℤ_assoc, *ℤ_one, neg_ℤ-*ℤ, *ℤ-neg_ℤ, le_of_mul_le}
use Rattle.bl_frac.proofs.WholeLaws.{neg-neg}
use Rattle.bl_simplex.specs.Fractions.{Fraction, negated, whole_fraction}
use Rattle.bl_simplex.specs.Rationals.{rational_sum, rational_difference, rational_product, rational_total}
use Rattle.bl_simplex.specs.Rationals.{SameRational, times_multiple}

-- f is z / m
pub record IsOver (m : ℕ) (f : Fraction) (z : ℤ) : Type 0 where
  pub scaled : f.num *ℤ pos m ≡ z *ℤ pos f.den

-- the numerator over a multiple of the denominator
pub over : ℕ → Fraction → ℤ
over m f = f.num *ℤ pos (m / f.den)

swap3 : (x a b : ℤ) → (x *ℤ a) *ℤ b ≡ (x *ℤ b) *ℤ a
swap3 x a b =
    let v0 = variable 0 in
    let v1 = variable 1 in
    let v2 = variable 2 in
    identity (x ∷ a ∷ b ∷ []) (times (times v0 v1) v2) (times (times v0 v2) v1) refl

pub over_is : (m : ℕ) (f : Fraction) → f.den ∣ m → IsOver m f (over m f)
unfolding over
over_is m f h = record {
  scaled = ap (λ n. f.num *ℤ pos n) (sym (div-mul_cancel f.den h)) ∙ sym (*ℤ_assoc f.num (pos (m / f.den)) (pos f.den));
}

-- in whole numbers: (a·d + c·b)·m from a·m = x·b and c·m = y·d
sum_scaled : (a b c d m x y : ℤ) → a *ℤ m ≡ x *ℤ b → c *ℤ m ≡ y *ℤ d → (a *ℤ d +ℤ c *ℤ b) *ℤ m ≡ (x +ℤ y) *ℤ (b *ℤ d)
sum_scaled a b c d m x y ha hc =
    let va = variable 0 in
    let vb = variable 1 in
    let vc = variable 2 in
    let vd = variable 3 in
    let vm = variable 4 in
    let first : (a *ℤ d +ℤ c *ℤ b) *ℤ m ≡ (a *ℤ m) *ℤ d +ℤ (c *ℤ m) *ℤ b =
    identity (a ∷ b ∷ c ∷ d ∷ m ∷ []) (times (plus (times va vd) (times vc vb)) vm)
    (plus (times (times va vm) vd) (times (times vc vm) vb)) refl in
    let last : (x *ℤ b) *ℤ d +ℤ (y *ℤ d) *ℤ b ≡ (x +ℤ y) *ℤ (b *ℤ d) =
    identity (x ∷ b ∷ y ∷ d ∷ []) (plus (times (times va vb) vd) (times (times vc vd) vb))
    (times (plus va vc) (times vb vd)) refl in
    first ∙ ap (λ z. z *ℤ d +ℤ (c *ℤ m) *ℤ b) ha ∙ ap (λ z. (x *ℤ b) *ℤ d +ℤ z *ℤ b) hc ∙ last

difference_scaled : (a b c d m x y : ℤ) → a *ℤ m ≡ x *ℤ b → c *ℤ m ≡ y *ℤ d
    → (a *ℤ d -ℤ c *ℤ b) *ℤ m ≡ (x -ℤ y) *ℤ (b *ℤ d)
difference_scaled a b c d m x y ha hc =
    let va = variable 0 in
    let vb = variable 1 in
    let vc = variable 2 in
    let vd = variable 3 in
    let vm = variable 4 in
    let first : (a *ℤ d -ℤ c *ℤ b) *ℤ m ≡ (a *ℤ m) *ℤ d -ℤ (c *ℤ m) *ℤ b =
    identity (a ∷ b ∷ c ∷ d ∷ m ∷ []) (times (minus (times va vd) (times vc vb)) vm)
    (minus (times (times va vm) vd) (times (times vc vm) vb)) refl in
    let last : (x *ℤ b) *ℤ d -ℤ (y *ℤ d) *ℤ b ≡ (x -ℤ y) *ℤ (b *ℤ d) =
    identity (x ∷ b ∷ y ∷ d ∷ []) (minus (times (times va vb) vd) (times (times vc vd) vb))
    (times (minus va vc) (times vb vd)) refl in
    first ∙ ap (λ z. z *ℤ d -ℤ (c *ℤ m) *ℤ b) ha ∙ ap (λ z. (x *ℤ b) *ℤ d -ℤ z *ℤ b) hc ∙ last

product_scaled : (a b c d m k x y : ℤ) → a *ℤ m ≡ x *ℤ b → c *ℤ k ≡ y *ℤ d → (a *ℤ c) *ℤ (m *ℤ k) ≡ (x *ℤ y) *ℤ (b *ℤ d)
product_scaled a b c d m k x y ha hc =
    let v0 = variable 0 in
    let v1 = variable 1 in
    let v2 = variable 2 in
    let v3 = variable 3 in
    let first : (a *ℤ c) *ℤ (m *ℤ k) ≡ (a *ℤ m) *ℤ (c *ℤ k) =
    identity (a ∷ c ∷ m ∷ k ∷ []) (times (times v0 v1) (times v2 v3)) (times (times v0 v2) (times v1 v3)) refl in
    let last : (x *ℤ b) *ℤ (y *ℤ d) ≡ (x *ℤ y) *ℤ (b *ℤ d) =
    identity (x ∷ b ∷ y ∷ d ∷ []) (times (times v0 v1) (times v2 v3)) (times (times v0 v2) (times v1 v3)) refl in
    first ∙ ap (λ z. z *ℤ (c *ℤ k)) ha ∙ ap (λ z. (x *ℤ b) *ℤ z) hc ∙ last

pub over_sum : (m : ℕ) (f g : Fraction) (x y : ℤ) → IsOver m f x → IsOver m g y → IsOver m (rational_sum f g) (x +ℤ y)
over_sum m f g x y hf hg =
    record { scaled = sum_scaled f.num (pos f.den) g.num (pos g.den) (pos m) x y hf.scaled hg.scaled }

pub over_difference : (m : ℕ) (f g : Fraction) (x y : ℤ) → IsOver m f x → IsOver m g y
    → IsOver m (rational_difference f g) (x -ℤ y)
over_difference m f g x y hf hg =
    record { scaled = difference_scaled f.num (pos f.den) g.num (pos g.den) (pos m) x y hf.scaled hg.scaled }

pub over_product : (m k : ℕ) (f g : Fraction) (x y : ℤ) → IsOver m f x → IsOver k g y
    → IsOver (m * k) (rational_product f g) (x *ℤ y)
over_product m k f g x y hf hg =
    record { scaled = product_scaled f.num (pos f.den) g.num (pos g.den) (pos m) (pos k) x y hf.scaled hg.scaled }

-- over a multiple
pub over_more : (m k : ℕ) (f : Fraction) (x : ℤ) → IsOver m f x → IsOver (m * k) f (x *ℤ pos k)
over_more m k f x h = record {
  scaled = sym (*ℤ_assoc f.num (pos m) (pos k)) ∙ ap (λ z. z *ℤ pos k) h.scaled ∙ swap3 x (pos f.den) (pos k);
}

pub over_nought : (m : ℕ) → IsOver m (whole_fraction (pos 0)) (pos 0)
over_nought m = record { scaled = omega (arith, ints) }

pub over_total : (m n : ℕ) (f : ℕ → Fraction) (z : ℕ → ℤ) → ((j : ℕ) → j < n → IsOver m (f j) (z j))
    → IsOver m (rational_total n f) (sum_below n z)
over_total m zero f z h = over_nought m
over_total m (suc n) f z h =
    over_sum m (rational_total n f) (f n) (sum_below n z) (z n) (over_total m n f z (λ j l. h j (omega arith)))
    (h n (omega arith))

-- a whole number over m, a fraction over a multiple of its denominator, and a fraction times a whole number
pub over_whole : (m : ℕ) (z : ℤ) → IsOver m (whole_fraction z) (z *ℤ pos m)
over_whole m z = record { scaled = sym (*ℤ_one (z *ℤ pos m)) }

pub over_itself : (z : ℤ) → IsOver 1 (whole_fraction z) z
over_itself z = record { scaled = refl }

pub over_multiple : (m : ℕ) (f : Fraction) → f.den ∣ m → IsOver m f (times_multiple m f)
over_multiple m f h = record {
  scaled = ap (λ n. f.num *ℤ pos n) (sym (div-mul_cancel f.den h))
      ∙ ap (λ z. f.num *ℤ z) (sym (pos-*ℤ-pos (m / f.den) f.den)) ∙ sym (*ℤ_assoc f.num (pos (m / f.den)) (pos f.den));
}

pub over_scaled : (m : ℕ) (a : ℤ) (f : Fraction) (z : ℤ) → IsOver m f z
    → IsOver m (rational_product (whole_fraction a) f) (a *ℤ z)
over_scaled m a f z h =
    let e : 1 * m ≡ m = omega arith in
    subst (λ n. IsOver n (rational_product (whole_fraction a) f) (a *ℤ z)) e
    (over_product 1 m (whole_fraction a) f a z (over_itself a) h)

-- a positive factor may be left out
pub cancel : (x y : ℤ) (k : ℕ) → 0 < k → x *ℤ pos k ≡ y *ℤ pos k → x ≡ y
cancel x y k h e =
    let turned : pos k *ℤ x ≡ pos k *ℤ y = *ℤ_comm (pos k) x ∙ e ∙ *ℤ_comm y (pos k) in
    let some : pos 0 <ℤ pos k = omega (arith, ints) in
    let below : x ≤ℤ y = le_of_mul_le (pos k) some (omega (arith, ints)) in
    let above : y ≤ℤ x = le_of_mul_le (pos k) some (omega (arith, ints)) in
    omega (arith, ints)

-- two fractions over one denominator are the same rational exactly where the whole numbers are
pub same_from_over : (m : ℕ) (f g : Fraction) (x y : ℤ) → 0 < m → IsOver m f x → IsOver m g y → x ≡ y → SameRational f g
same_from_over m f g x y some hf hg e = record {
  cross = cancel (f.num *ℤ pos g.den) (g.num *ℤ pos f.den) m some (
      swap3 f.num (pos g.den) (pos m) ∙ ap (λ z. z *ℤ pos g.den) hf.scaled ∙ ap (λ z. (z *ℤ pos f.den) *ℤ pos g.den) e
      ∙ swap3 y (pos f.den) (pos g.den) ∙ ap (λ z. z *ℤ pos f.den) (sym hg.scaled)
      ∙ swap3 g.num (pos m) (pos f.den));
}

pub over_from_same : (m : ℕ) (f g : Fraction) (x y : ℤ) → 0 < f.den → 0 < g.den → IsOver m f x → IsOver m g y
    → SameRational f g → x ≡ y
over_from_same m f g x y some other hf hg e =
    cancel x y f.den some (cancel (x *ℤ pos f.den) (y *ℤ pos f.den) g.den other (
    ap (λ z. z *ℤ pos g.den) (sym hf.scaled) ∙ swap3 f.num (pos m) (pos g.den) ∙ ap (λ z. z *ℤ pos m) e.cross
    ∙ swap3 g.num (pos f.den) (pos m) ∙ ap (λ z. z *ℤ pos f.den) hg.scaled ∙ swap3 y (pos g.den) (pos f.den)))

-- a whole number over a denominator is one number
pub over_unique : (m : ℕ) (f : Fraction) (x y : ℤ) → 0 < f.den → IsOver m f x → IsOver m f y → x ≡ y
over_unique m f x y some h k = cancel x y f.den some (sym h.scaled ∙ k.scaled)

-- the same rational, over the same denominator
pub over_same : (m : ℕ) (f g : Fraction) (z : ℤ) → 0 < g.den → SameRational f g → IsOver m g z → IsOver m f z
over_same m f g z some e h = record {
  scaled = cancel (f.num *ℤ pos m) (z *ℤ pos f.den) g.den some (
      swap3 f.num (pos m) (pos g.den) ∙ ap (λ w. w *ℤ pos m) e.cross ∙ swap3 g.num (pos f.den) (pos m)
      ∙ ap (λ w. w *ℤ pos f.den) h.scaled ∙ swap3 z (pos g.den) (pos f.den));
}

pub over_negated : (m : ℕ) (f : Fraction) (z : ℤ) → IsOver m f z → IsOver m (negated f) (neg_ℤ z)
over_negated m f z h = record {
  scaled = neg_ℤ-*ℤ f.num (pos m) ∙ ap neg_ℤ h.scaled ∙ sym (neg_ℤ-*ℤ z (pos f.den));
}

-- ---- a common multiple of finitely many denominators

pub multiple : ℕ → (ℕ → ℕ) → ℕ
multiple zero f = 1
multiple (suc n) f = multiple n f * f n

pub multiple_positive : (n : ℕ) (f : ℕ → ℕ) → ((k : ℕ) → k < n → 0 < f k) → 0 < multiple n f
unfolding multiple
multiple_positive zero f h = omega arith
multiple_positive (suc n) f h =
    omega (arith, mul-lt-mul_of_pos_right (multiple_positive n f (λ k l. h k (omega arith))) (h n (omega arith)))

pub dvd_multiple : (n : ℕ) (f : ℕ → ℕ) (k : ℕ) → k < n → f k ∣ multiple n f
unfolding multiple
dvd_multiple zero f k h = absurd (omega arith)
dvd_multiple (suc n) f k h =
    elim (cases_eq k n) [
      | inl e ↦ subst (λ i. f i ∣ multiple n f * f n) (sym e) (dvd-mul_left (f n) (multiple n f))
      | inr ne ↦ dvd-mul_right_of_dvd (f k) (dvd_multiple n f k (omega arith)) (f n)
    ]

-- a factor other than 0 may be left out
pub cancel_nonzero : (x y p : ℤ) → (p ≡ pos 0 → ⊥) → x *ℤ p ≡ y *ℤ p → x ≡ y
cancel_nonzero x y (pos zero) h e = absurd (h refl)
cancel_nonzero x y (pos (suc k)) h e = cancel x y (suc k) (omega arith) e
cancel_nonzero x y (negsuc k) h e =
    cancel x y (suc k) (omega arith) (
    sym (neg-neg (x *ℤ pos (suc k))) ∙ ap neg_ℤ (sym (*ℤ-neg_ℤ x (pos (suc k)))) ∙ ap neg_ℤ e
    ∙ ap neg_ℤ (*ℤ-neg_ℤ y (pos (suc k))) ∙ neg-neg (y *ℤ pos (suc k)))

-- sums whose terms are tied by one equation are tied by it
pub sum_linear : (n : ℕ) (f g h : ℕ → ℤ) (m k e : ℤ) → ((j : ℕ) → j < n → f j *ℤ m ≡ g j *ℤ k -ℤ e *ℤ h j)
    → sum_below n f *ℤ m ≡ sum_below n g *ℤ k -ℤ e *ℤ sum_below n h
sum_linear zero f g h m k e tied =
    identity (m ∷ k ∷ e ∷ []) (times (constant (pos 0)) (variable 0))
    (minus (times (constant (pos 0)) (variable 1)) (times (variable 2) (constant (pos 0)))) refl
sum_linear (suc n) f g h m k e tied =
    let v0 = variable 0 in
    let v1 = variable 1 in
    let v2 = variable 2 in
    let v3 = variable 3 in
    let v4 = variable 4 in
    let v5 = variable 5 in
    let sf = sum_below n f in
    let sg = sum_below n g in
    let sh = sum_below n h in
    let split : (sf +ℤ f n) *ℤ m ≡ sf *ℤ m +ℤ f n *ℤ m =
    identity (sf ∷ f n ∷ m ∷ []) (times (plus v0 v1) v2) (plus (times v0 v2) (times v1 v2)) refl in
    let join : (sg *ℤ k -ℤ e *ℤ sh) +ℤ (g n *ℤ k -ℤ e *ℤ h n) ≡ (sg +ℤ g n) *ℤ k -ℤ e *ℤ (sh +ℤ h n) =
    identity (sg ∷ k ∷ e ∷ sh ∷ g n ∷ h n ∷ [])
    (plus (minus (times v0 v1) (times v2 v3)) (minus (times v4 v1) (times v2 v5)))
    (minus (times (plus v0 v4) v1) (times v2 (plus v3 v5))) refl in
    split ∙ ap (λ z. z +ℤ f n *ℤ m) (sum_linear n f g h m k e (λ j l. tied j (omega arith)))
    ∙ ap (λ z. (sg *ℤ k -ℤ e *ℤ sh) +ℤ z) (tied n (omega arith)) ∙ join
