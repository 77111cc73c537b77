-- Signs of whole numbers and of fractions over a common denominator.
use Rattle.std.proofs.Common.{◌≡◌, ℕ, ◌*◌, ◌<◌, ◌⊎◌, inl, inr, Less, Equal, [], ◌∷◌, ℤ, pos, neg_ℤ, ◌-ℤ◌, ◌*ℤ◌}
use Rattle.std.proofs.Common.{◌≤ℤ◌, ◌<ℤ◌, refl, sym, ap, ◌∙◌, subst, arith}
use Rattle.std.specs.Prelude.{Some}
use Rattle.std.specs.Int.{◌∣◌}
use Rattle.std.specs.declared.cmp.Ordering.{Ordering}
use Rattle.std.specs.Ordering.{int_cmp, MatchOrdering}
use Rattle.std.specs.Cmp.{int_ranks}
use Rattle.std.proofs.Math.Nat.{mul_comm}
use Rattle.std.proofs.Math.IntN.{*ℤ-zero, *ℤ_comm}
use Rattle.std.proofs.lemmas.Int.{ints, by_lt_z}
use Rattle.bl_whole.specs.Identities.{variable, minus, times}
use Rattle.bl_whole.proofs.IdentityLemmas.{identity}
use Rattle.bl_whole.proofs.Products.{mul_nonneg, mul_positive, mul_le_left, mul_le_left_neg, le_of_mul_le, neg_ℤ-*ℤ}
use Rattle.bl_whole.proofs.Products.{*ℤ-neg_ℤ}
use Rattle.bl_simplex.specs.Fractions.{Fraction, quotient_of, order_of}
use Rattle.bl_simplex.specs.Rationals.{rational_product, SameRational}
use Rattle.bl_frac.proofs.Rationals.{quotient_of-is, quotient_of-positive}
use Rattle.bl_tableau.proofs.Scaling.{IsOver, over, over_is, over_more, over_product, over_same, over_unique}
use Rattle.bl_tableau.proofs.RowEquations.{product_positive}

-- ---- products

pub both_nonpositive : {a b : ℤ} → a ≤ℤ pos 0 → b ≤ℤ pos 0 → pos 0 ≤ℤ (a *ℤ b)
both_nonpositive {a} {b} ha hb =
    let h = mul_le_left_neg {a = b} {b = pos 0} a ha hb in
    let z = *ℤ-zero a in
    omega (arith, ints)

pub one_nonpositive : {a b : ℤ} → pos 0 ≤ℤ a → b ≤ℤ pos 0 → (a *ℤ b) ≤ℤ pos 0
one_nonpositive {a} {b} ha hb =
    let h = mul_le_left {a = b} {b = pos 0} a ha hb in
    let z = *ℤ-zero a in
    omega (arith, ints)

-- a positive factor keeps the sign
pub sign_from_product : (m v : ℤ) → pos 0 <ℤ m → (v *ℤ m) ≤ℤ pos 0 → v ≤ℤ pos 0
sign_from_product m v some h =
    by_lt_z (pos 0) v (λ more. let p = mul_positive {a = v} {b = m} more some in omega (arith, ints)) (λ l. l)

-- and a negative one turns it
pub sign_from_negative : (v p : ℤ) → p <ℤ pos 0 → pos 0 ≤ℤ (v *ℤ p) → v ≤ℤ pos 0
sign_from_negative v p below h =
    by_lt_z (pos 0) v
    (λ more.
    let g = mul_positive {a = v} {b = neg_ℤ p} more (omega (arith, ints)) in
    let e = *ℤ-neg_ℤ v p in
    omega (arith, ints)) (λ l. l)

-- ---- the cost row's numbers after a pivot, over m: p is the pivot, g one over it, e the cost entry in its column

-- at the pivot's own column
pub own_sign : (m e g p v : ℤ) → pos 0 <ℤ m → p <ℤ pos 0 → e ≤ℤ pos 0 → m *ℤ m ≡ g *ℤ p → v *ℤ m ≡ neg_ℤ (e *ℤ g)
    → v ≤ℤ pos 0
own_sign m e g p v some below cost one new =
    let square = mul_positive {a = m} {b = m} some some in
    let share : g ≤ℤ pos 0 = sign_from_negative g p below (omega (arith, ints)) in
    let product = both_nonpositive {a = e} {b = g} cost share in
    sign_from_product m v some (omega (arith, ints))

-- at a column whose entry a isn't negative: f is the share, b the cost entry
pub other_sign : (m e p a f b v : ℤ) → pos 0 <ℤ m → p <ℤ pos 0 → e ≤ℤ pos 0 → b ≤ℤ pos 0 → pos 0 ≤ℤ a
    → a *ℤ m ≡ f *ℤ p → v *ℤ m ≡ b *ℤ m -ℤ e *ℤ f → v ≤ℤ pos 0
other_sign m e p a f b v some below cost cost' entry share new =
    let product = mul_nonneg {a = a} {b = m} entry (omega (arith, ints)) in
    let sign : f ≤ℤ pos 0 = sign_from_negative f p below (omega (arith, ints)) in
    let taken = both_nonpositive {a = e} {b = f} cost sign in
    let turned = *ℤ_comm b m in
    let kept = one_nonpositive {a = m} {b = b} (omega (arith, ints)) cost' in
    sign_from_product m v some (omega (arith, ints))

-- at a candidate, whose ratio isn't less
pub candidate_sign : (m e p a f b v : ℤ) → pos 0 <ℤ m → p <ℤ pos 0 → (e *ℤ a) ≤ℤ (b *ℤ p) → a *ℤ m ≡ f *ℤ p
    → v *ℤ m ≡ b *ℤ m -ℤ e *ℤ f → v ≤ℤ pos 0
candidate_sign m e p a f b v some below ratios share new =
    let v0 = variable 0 in
    let v1 = variable 1 in
    let v2 = variable 2 in
    let v3 = variable 3 in
    let v4 = variable 4 in
    let first : (v *ℤ m) *ℤ p ≡ (b *ℤ m) *ℤ p -ℤ e *ℤ (f *ℤ p) =
    ap (λ x. x *ℤ p) new
    ∙ identity (b ∷ m ∷ e ∷ f ∷ p ∷ []) (times (minus (times v0 v1) (times v2 v3)) v4)
    (minus (times (times v0 v1) v4) (times v2 (times v3 v4))) refl in
    let last : (b *ℤ m) *ℤ p -ℤ e *ℤ (a *ℤ m) ≡ m *ℤ (b *ℤ p -ℤ e *ℤ a) =
    identity (b ∷ m ∷ e ∷ a ∷ p ∷ []) (minus (times (times v0 v1) v4) (times v2 (times v3 v1)))
    (times v1 (minus (times v0 v4) (times v2 v3))) refl in
    let joined = ap (λ x. (b *ℤ m) *ℤ p -ℤ e *ℤ x) (sym share) in
    let least = mul_nonneg {a = m} {b = b *ℤ p -ℤ e *ℤ a} (omega (arith, ints)) (omega (arith, ints)) in
    let scaled : (v *ℤ m) ≤ℤ pos 0 = sign_from_negative (v *ℤ m) p below (omega (arith, ints)) in
    sign_from_product m v some scaled

-- ratios e / p and b / a with negative p and a, in order, as products: s / c and t / d are the ratios
pub ratios_in_order : (e p b a s t c d : ℤ) → p <ℤ pos 0 → a <ℤ pos 0 → pos 0 <ℤ c → pos 0 <ℤ d → e *ℤ c ≡ s *ℤ p
    → b *ℤ d ≡ t *ℤ a → (s *ℤ d) ≤ℤ (t *ℤ c) → (e *ℤ a) ≤ℤ (b *ℤ p)
ratios_in_order e p b a s t c d hp ha hc hd first second order =
    let v0 = variable 0 in
    let v1 = variable 1 in
    let v2 = variable 2 in
    let v3 = variable 3 in
    let positive = both_nonpositive {a = p} {b = a} (omega (arith, ints)) (omega (arith, ints)) in
    let product = mul_le_left (p *ℤ a) positive order in
    let left : (c *ℤ d) *ℤ (e *ℤ a) ≡ (p *ℤ a) *ℤ (s *ℤ d) =
    identity (c ∷ d ∷ e ∷ a ∷ []) (times (times v0 v1) (times v2 v3)) (times (times v2 v0) (times v3 v1)) refl
    ∙ ap (λ x. x *ℤ (a *ℤ d)) first
    ∙ identity (s ∷ p ∷ a ∷ d ∷ []) (times (times v0 v1) (times v2 v3)) (times (times v1 v2) (times v0 v3)) refl in
    let right : (c *ℤ d) *ℤ (b *ℤ p) ≡ (p *ℤ a) *ℤ (t *ℤ c) =
    identity (c ∷ d ∷ b ∷ p ∷ []) (times (times v0 v1) (times v2 v3)) (times (times v2 v1) (times v3 v0)) refl
    ∙ ap (λ x. x *ℤ (p *ℤ c)) second
    ∙ identity (t ∷ a ∷ p ∷ c ∷ []) (times (times v0 v1) (times v2 v3)) (times (times v2 v1) (times v0 v3)) refl in
    le_of_mul_le (c *ℤ d) (mul_positive hc hd) (omega (arith, ints))

-- ---- fractions over m

-- m is a positive multiple of the fraction's denominator
pub record IsMultiple (m : ℕ) (f : Fraction) : Type 0 where
  pub some : 0 < m
  pub positive : 0 < f.den
  pub divides : f.den ∣ m

above : (n : ℕ) → 0 < n → pos 0 <ℤ pos n
above n h = omega (arith, ints)

pub over_nonnegative : (m : ℕ) (f : Fraction) → IsMultiple m f → pos 0 ≤ℤ f.num → pos 0 ≤ℤ over m f
over_nonnegative m f h l =
    let e = (over_is m f h.divides).scaled in
    let p = mul_nonneg {a = f.num} {b = pos m} l (omega (arith, ints)) in
    by_lt_z (over m f) (pos 0)
    (λ less.
    let n = mul_positive {a = neg_ℤ (over m f)} {b = pos f.den} (omega (arith, ints)) (above f.den h.positive) in
    let t = neg_ℤ-*ℤ (over m f) (pos f.den) in
    omega (arith, ints)) (λ more. more)

pub over_nonpositive : (m : ℕ) (f : Fraction) → IsMultiple m f → f.num ≤ℤ pos 0 → over m f ≤ℤ pos 0
over_nonpositive m f h l =
    let e = (over_is m f h.divides).scaled in
    let p = one_nonpositive {a = pos m} {b = f.num} (omega (arith, ints)) l in
    let t = *ℤ_comm f.num (pos m) in
    sign_from_product (pos f.den) (over m f) (above f.den h.positive) (omega (arith, ints))

pub over_negative : (m : ℕ) (f : Fraction) → IsMultiple m f → f.num <ℤ pos 0 → over m f <ℤ pos 0
over_negative m f h l =
    let e = (over_is m f h.divides).scaled in
    let p = mul_positive {a = neg_ℤ f.num} {b = pos m} (omega (arith, ints)) (above m h.some) in
    let t = neg_ℤ-*ℤ f.num (pos m) in
    by_lt_z (over m f) (pos 0) (λ less. less)
    (λ more.
    let n = mul_nonneg {a = over m f} {b = pos f.den} more (omega (arith, ints)) in
    omega (arith, ints))

pub nonpositive_from_over : (m : ℕ) (f : Fraction) → IsMultiple m f → over m f ≤ℤ pos 0 → f.num ≤ℤ pos 0
nonpositive_from_over m f h l =
    let e = (over_is m f h.divides).scaled in
    let p = one_nonpositive {a = pos f.den} {b = over m f} (omega (arith, ints)) l in
    let t = *ℤ_comm (over m f) (pos f.den) in
    sign_from_product (pos m) f.num (above m h.some) (omega (arith, ints))

-- a quotient as an equation over m
pub quotient_tied : (m : ℕ) (a p f : Fraction) → 0 < a.den → 0 < p.den → (p.num ≡ pos 0 → ⊥) → a.den ∣ m → p.den ∣ m
    → quotient_of a p ≡ Some f → over m a *ℤ pos f.den ≡ f.num *ℤ over m p
quotient_tied m a p f ha hp nonzero da dp e =
    let same : SameRational a (rational_product f p) = record { cross = quotient_of-is a p f e } in
    let positive = quotient_of-positive a p f ha nonzero e in
    let product : IsOver (f.den * m) (rational_product f p) (f.num *ℤ over m p) =
    over_product f.den m f p f.num (over m p) (record { scaled = refl }) (over_is m p dp) in
    let value : IsOver (f.den * m) a (f.num *ℤ over m p) =
    over_same (f.den * m) a (rational_product f p) _ (product_positive f.den p.den positive hp) same product in
    let other : IsOver (f.den * m) a (over m a *ℤ pos f.den) =
    subst (λ k. IsOver k a (over m a *ℤ pos f.den)) (mul_comm m f.den) (over_more m f.den a (over m a) (over_is m a da))
    in over_unique (f.den * m) a _ _ ha other value

-- what the order of two fractions says
ranked : (x y : ℤ) (r : Ordering) → int_cmp x y ≡ r → MatchOrdering r (x <ℤ y) (x ≡ y) (y <ℤ x)
ranked x y r e = subst (λ o. MatchOrdering o (x <ℤ y) (x ≡ y) (y <ℤ x)) e (int_ranks x y)

pub at_most_from_order : (x y : Fraction) → (order_of x y ≡ Less) ⊎ (order_of x y ≡ Equal)
    → (x.num *ℤ pos y.den) ≤ℤ (y.num *ℤ pos x.den)
unfolding order_of
at_most_from_order x y (inl e) =
    let h = ranked (x.num *ℤ pos y.den) (y.num *ℤ pos x.den) Less e in omega (arith, ints)
at_most_from_order x y (inr e) =
    let h = ranked (x.num *ℤ pos y.den) (y.num *ℤ pos x.den) Equal e in omega (arith, ints)
