-- Entries of rows as whole numbers over a scale, and what the elimination makes of them.
use Rattle.std.proofs.Common.{◌≡◌, ◌≢◌, ℕ, zero, suc, ◌*◌, ◌<◌, [], ◌∷◌, ℤ, pos, negsuc}
use Rattle.std.proofs.Common.{◌-ℤ◌, ◌*ℤ◌, refl, sym, ap, ◌∙◌, arith}
use Rattle.std.specs.Prelude.{Some}
use Rattle.std.proofs.lemmas.Int.{ints}
use Rattle.std.proofs.lemmas.Option.{option_and_then_some}
use Rattle.bl_whole.specs.Identities.{variable, times}
use Rattle.bl_whole.proofs.IdentityLemmas.{identity}
use Rattle.bl_simplex.specs.Fractions.{Fraction, product_of, difference_of, quotient_of}
use Rattle.bl_simplex.specs.Rationals.{rational_difference, rational_product}
use Rattle.bl_frac.proofs.Rationals.{product_of-is, quotient_of-is, difference_of-is, product_of-positive}
use Rattle.bl_frac.proofs.Rationals.{difference_of-positive}
use Rattle.bl_tableau.proofs.Scaling.{IsOver, over_difference, over_product, over_more, over_same, cancel}
use Rattle.bl_tableau.proofs.RowEquations.{product_positive}
use Rattle.bl_elimination.specs.Elimination.{less_multiple}

-- x less e times y, over the product of their scales
pub less_over : (m k : ℕ) (x e y v : Fraction) (a b d : ℤ) → 0 < x.den → 0 < e.den → 0 < y.den → IsOver m x a
    → IsOver m e b → IsOver k y d → less_multiple x e y ≡ Some v
    → IsOver (m * k) v (a *ℤ pos k -ℤ b *ℤ d) × (0 < v.den)
less_over m k x e y v a b d hx he hy ox oe oy h =
    option_and_then_some (difference_of x) (product_of e y) v h
    (λ t product rest.
    let positive = product_of-positive e y t he hy product in
    let over = over_same (m * k) t (rational_product e y) (b *ℤ d) (product_positive e.den y.den he hy)
    (record { cross = product_of-is e y t product }) (over_product m k e y b d oe oy) in
    let taken = over_difference (m * k) x t (a *ℤ pos k) (b *ℤ d) (over_more m k x a ox) over in (
      over_same (m * k) v (rational_difference x t) (a *ℤ pos k -ℤ b *ℤ d) (product_positive x.den t.den hx positive)
          (record { cross = difference_of-is x t v rest }) taken,
      difference_of-positive x t v hx positive rest,
    ))

-- in whole numbers: w · p = x with x = a/m and p = b/m is a/b
quotient_scaled : (wn wd pn pd xn xd m a b : ℤ) → xn *ℤ (wd *ℤ pd) ≡ (wn *ℤ pn) *ℤ xd → xn *ℤ m ≡ a *ℤ xd
    → pn *ℤ m ≡ b *ℤ pd → (wn *ℤ b) *ℤ (pd *ℤ xd) ≡ (a *ℤ wd) *ℤ (pd *ℤ xd)
quotient_scaled wn wd pn pd xn xd m a b hw hx hp =
    let v0 = variable 0 in
    let v1 = variable 1 in
    let v2 = variable 2 in
    let v3 = variable 3 in
    let v4 = variable 4 in
    let first : (wn *ℤ b) *ℤ (pd *ℤ xd) ≡ (wn *ℤ xd) *ℤ (b *ℤ pd) =
    identity (wn ∷ b ∷ pd ∷ xd ∷ []) (times (times v0 v1) (times v2 v3)) (times (times v0 v3) (times v1 v2)) refl in
    let second : (wn *ℤ xd) *ℤ (pn *ℤ m) ≡ ((wn *ℤ pn) *ℤ xd) *ℤ m =
    identity (wn ∷ xd ∷ pn ∷ m ∷ []) (times (times v0 v1) (times v2 v3)) (times (times (times v0 v2) v1) v3) refl in
    let third : (xn *ℤ (wd *ℤ pd)) *ℤ m ≡ (xn *ℤ m) *ℤ (wd *ℤ pd) =
    identity (xn ∷ wd ∷ pd ∷ m ∷ []) (times (times v0 (times v1 v2)) v3) (times (times v0 v3) (times v1 v2)) refl in
    let last : (a *ℤ xd) *ℤ (wd *ℤ pd) ≡ (a *ℤ wd) *ℤ (pd *ℤ xd) =
    identity (a ∷ xd ∷ wd ∷ pd ∷ []) (times (times v0 v1) (times v2 v3)) (times (times v0 v2) (times v3 v1)) refl in
    first ∙ ap (λ z. (wn *ℤ xd) *ℤ z) (sym hp) ∙ second ∙ ap (λ z. z *ℤ m) (sym hw) ∙ third
    ∙ ap (λ z. z *ℤ (wd *ℤ pd)) hx ∙ last

-- the quotient of a/m by b/m, as an equation of whole numbers
pub quotient_over : (m : ℕ) (x p w : Fraction) (a b : ℤ) → 0 < x.den → 0 < p.den → IsOver m x a → IsOver m p b
    → quotient_of x p ≡ Some w → w.num *ℤ b ≡ a *ℤ pos w.den
quotient_over m x p w a b hx hp ox op h =
    let q : x.num *ℤ pos (w.den * p.den) ≡ (w.num *ℤ p.num) *ℤ pos x.den = quotient_of-is x p w h in
    let parts : pos (w.den * p.den) ≡ pos w.den *ℤ pos p.den = omega (arith, ints) in
    let both : pos (p.den * x.den) ≡ pos p.den *ℤ pos x.den = omega (arith, ints) in
    cancel (w.num *ℤ b) (a *ℤ pos w.den) (p.den * x.den) (product_positive p.den x.den hp hx)
    (ap (λ z. (w.num *ℤ b) *ℤ z) both
    ∙ quotient_scaled w.num (pos w.den) p.num (pos p.den) x.num (pos x.den) (pos m) a b
    (ap (λ z. x.num *ℤ z) (sym parts) ∙ q) ox.scaled op.scaled
    ∙ ap (λ z. (a *ℤ pos w.den) *ℤ z) (sym both))

-- ---- entries that are whole numbers

-- the fraction is this whole number
pub record IsWhole (f : Fraction) (z : ℤ) : Type 0 where
  pub is : f.num ≡ z *ℤ pos f.den

swap_last : (z a b : ℤ) → (z *ℤ a) *ℤ b ≡ (z *ℤ b) *ℤ a
swap_last z a b =
    identity (z ∷ a ∷ b ∷ []) (times (times (variable 0) (variable 1)) (variable 2))
    (times (times (variable 0) (variable 2)) (variable 1)) refl

pub over_of_whole : (m : ℕ) (f : Fraction) (z w : ℤ) → 0 < f.den → IsWhole f z → IsOver m f w → w ≡ z *ℤ pos m
over_of_whole m f z w some h o =
    cancel w (z *ℤ pos m) f.den some
    (sym o.scaled ∙ ap (λ n. n *ℤ pos m) h.is ∙ swap_last z (pos f.den) (pos m))

pub whole_from_over : (m : ℕ) (f : Fraction) (z w : ℤ) → 0 < m → IsOver m f w → w ≡ z *ℤ pos m → IsWhole f z
whole_from_over m f z w some o e = record {
  is = cancel f.num (z *ℤ pos f.den) m some
      (o.scaled ∙ ap (λ n. n *ℤ pos f.den) e ∙ swap_last z (pos m) (pos f.den));
}

-- two scales of one fraction
pub over_both : (m k : ℕ) (f : Fraction) (x y : ℤ) → 0 < f.den → IsOver m f x → IsOver k f y → x *ℤ pos k ≡ y *ℤ pos m
over_both m k f x y some hx hy =
    cancel (x *ℤ pos k) (y *ℤ pos m) f.den some
    (swap_last x (pos k) (pos f.den) ∙ ap (λ z. z *ℤ pos k) (sym hx.scaled) ∙ swap_last f.num (pos m) (pos k)
    ∙ ap (λ z. z *ℤ pos m) hy.scaled ∙ swap_last y (pos f.den) (pos m))

-- a number other than 0 as a magnitude with its sign
pub sign_of : ℤ → ℤ
sign_of (pos n) = pos 1
sign_of (negsuc n) = negsuc 0

pub size_of : ℤ → ℕ
size_of (pos n) = n
size_of (negsuc n) = suc n

pub signed_size : (z : ℤ) → sign_of z *ℤ z ≡ pos (size_of z)
unfolding sign_of size_of
signed_size (pos n) = omega (arith, ints)
signed_size (negsuc n) = omega (arith, ints)

pub size_positive : (z : ℤ) → z ≢ pos 0 → 0 < size_of z
unfolding size_of
size_positive (pos zero) h = absurd (h refl)
size_positive (pos (suc n)) h = omega arith
size_positive (negsuc n) h = omega arith

-- the quotient over the pivot's size
pub share_over : (m : ℕ) (x p w : Fraction) (a b : ℤ) → 0 < x.den → 0 < p.den → IsOver m x a → IsOver m p b
    → quotient_of x p ≡ Some w → IsOver (size_of b) w (sign_of b *ℤ a)
share_over m x p w a b hx hp ox op h =
    let e = quotient_over m x p w a b hx hp ox op h in
    let turn : (n s z : ℤ) → n *ℤ (s *ℤ z) ≡ s *ℤ (n *ℤ z) =
    λ n s z. identity (n ∷ s ∷ z ∷ []) (times (variable 0) (times (variable 1) (variable 2)))
    (times (variable 1) (times (variable 0) (variable 2))) refl in
    let back : (s z d : ℤ) → s *ℤ (z *ℤ d) ≡ (s *ℤ z) *ℤ d =
    λ s z d. identity (s ∷ z ∷ d ∷ []) (times (variable 0) (times (variable 1) (variable 2)))
    (times (times (variable 0) (variable 1)) (variable 2)) refl in
    record {
      scaled = ap (λ z. w.num *ℤ z) (sym (signed_size b)) ∙ turn w.num (sign_of b) b ∙ ap (λ z. sign_of b *ℤ z) e
          ∙ back (sign_of b) a (pos w.den);
    }
