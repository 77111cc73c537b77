-- The numbers on the way to a sum or a product, as the code makes them.
use Rattle.std.proofs.Common.{◌≡◌, ℕ, ◌*◌, ◌/◌, ◌^◌, ◌<◌, ◌≤◌, ℤ, pos, ◌*ℤ◌, Bool, true, false, cond, ◌&&◌, to_z, of_z}
use Rattle.std.proofs.Common.{unsigned_abs, refl, sym, ap, ◌∙◌, ◌⊎◌, inl, inr, arith}
use Rattle.std.specs.Prelude.{Option, Some, None, Result, Ok, Err, IsErr}
use Rattle.std.specs.Option.{ok_or}
use Rattle.std.specs.Int.{w128}
use Rattle.bl_frac.specs.declared.fraction.WideFrac.{WideFrac}
use Rattle.bl_simplex.specs.Fractions.{Fraction, narrow, lowest, sum_left, sum_right, sum_top, sum_bottom, sum_of}
use Rattle.bl_simplex.specs.Fractions.{product_top, product_bottom, product_of}
use Rattle.bl_frac.proofs.Signed.{signed_back, signed_of}

-- a numerator times a share
pub term : (m : ℤ) (e k g l : ℕ) → unsigned_abs m < 2 ^ 127 → e < 2 ^ 127 → l ≡ g → k ≡ e / l → k ≤ e
    → to_z w128 (of_z w128 m) *ℤ to_z w128 k ≡ m *ℤ pos (e / g)
term m e k g l hm he hl hk bound =
    let small : k < 2 ^ 127 = omega arith in
    let share : k ≡ e / g = hk ∙ ap (λ x. e / x) hl in
    ap (λ z. z *ℤ to_z w128 k) (signed_back m hm) ∙ ap (λ z. m *ℤ z) (signed_of k small) ∙ ap (λ x. m *ℤ pos x) share

-- a share times a denominator
pub denominator : (d e k g l : ℕ) → d < 2 ^ 127 → e < 2 ^ 127 → l ≡ g → k ≡ d / l → k ≤ d
    → to_z w128 k *ℤ to_z w128 e ≡ pos ((d / g) * e)
denominator d e k g l hd he hl hk bound =
    let small : k < 2 ^ 127 = omega arith in
    let share : k ≡ d / g = hk ∙ ap (λ x. d / x) hl in
    ap (λ z. z *ℤ to_z w128 e) (signed_of k small) ∙ ap (λ z. pos k *ℤ z) (signed_of e he) ∙ ap (λ x. pos (x * e)) share

-- the only error
pub wide_answer : (r : Result Fraction WideFrac) (o : Option Fraction) → IsErr r → o ≡ None → r ≡ ok_or o (record {})
wide_answer (Ok f) o h e = cc
wide_answer (Err w) o h e = sym (ap (λ x. ok_or x (record {})) e)

-- ---- the tests of a sum, one after another

first_fails : (p q r s : Bool) (f : Fraction) → p ≡ false → cond (p && (q && (r && s))) (Some f) None ≡ None
first_fails false q r s f h = refl
first_fails true q r s f h = cc

second_fails : (p q r s : Bool) (f : Fraction) → q ≡ false → cond (p && (q && (r && s))) (Some f) None ≡ None
second_fails false q r s f h = refl
second_fails true false r s f h = refl
second_fails true true r s f h = cc

third_fails : (p q r s : Bool) (f : Fraction) → r ≡ false → cond (p && (q && (r && s))) (Some f) None ≡ None
third_fails false q r s f h = refl
third_fails true false r s f h = refl
third_fails true true false s f h = refl
third_fails true true true s f h = cc

fourth_fails : (p q r s : Bool) (f : Fraction) → s ≡ false → cond (p && (q && (r && s))) (Some f) None ≡ None
fourth_fails false q r s f h = refl
fourth_fails true false r s f h = refl
fourth_fails true true false s f h = refl
fourth_fails true true true false f h = refl
fourth_fails true true true true f h = cc

all_hold : (p q r s : Bool) (f : Fraction) → p ≡ true → q ≡ true → r ≡ true → s ≡ true
    → cond (p && (q && (r && s))) (Some f) None ≡ Some f
all_hold true true true true f hp hq hr hs = refl
all_hold false q r s f hp hq hr hs = cc
all_hold true false r s f hp hq hr hs = cc
all_hold true true false s f hp hq hr hs = cc
all_hold true true true false f hp hq hr hs = cc

pub sum_of-wide_left : (a b : Fraction) → narrow (sum_left a b) ≡ false → sum_of a b ≡ None
unfolding sum_of
sum_of-wide_left a b h =
    first_fails (narrow (sum_left a b)) (narrow (sum_right a b)) (narrow (sum_top a b)) (narrow (pos (sum_bottom a b)))
    (lowest (sum_top a b) (sum_bottom a b)) h

pub sum_of-wide_right : (a b : Fraction) → narrow (sum_right a b) ≡ false → sum_of a b ≡ None
unfolding sum_of
sum_of-wide_right a b h =
    second_fails (narrow (sum_left a b)) (narrow (sum_right a b)) (narrow (sum_top a b))
    (narrow (pos (sum_bottom a b))) (lowest (sum_top a b) (sum_bottom a b)) h

pub sum_of-wide_top : (a b : Fraction) → narrow (sum_top a b) ≡ false → sum_of a b ≡ None
unfolding sum_of
sum_of-wide_top a b h =
    third_fails (narrow (sum_left a b)) (narrow (sum_right a b)) (narrow (sum_top a b)) (narrow (pos (sum_bottom a b)))
    (lowest (sum_top a b) (sum_bottom a b)) h

pub sum_of-wide_bottom : (a b : Fraction) → narrow (pos (sum_bottom a b)) ≡ false → sum_of a b ≡ None
unfolding sum_of
sum_of-wide_bottom a b h =
    fourth_fails (narrow (sum_left a b)) (narrow (sum_right a b)) (narrow (sum_top a b))
    (narrow (pos (sum_bottom a b))) (lowest (sum_top a b) (sum_bottom a b)) h

pub sum_of-narrow : (a b : Fraction) → narrow (sum_left a b) ≡ true → narrow (sum_right a b) ≡ true
    → narrow (sum_top a b) ≡ true → narrow (pos (sum_bottom a b)) ≡ true
    → sum_of a b ≡ Some (lowest (sum_top a b) (sum_bottom a b))
unfolding sum_of
sum_of-narrow a b p q r s =
    all_hold (narrow (sum_left a b)) (narrow (sum_right a b)) (narrow (sum_top a b)) (narrow (pos (sum_bottom a b)))
    (lowest (sum_top a b) (sum_bottom a b)) p q r s

-- ---- the tests of a product

one_fails : (p q : Bool) (f : Fraction) → p ≡ false → cond (p && q) (Some f) None ≡ None
one_fails false q f h = refl
one_fails true q f h = cc

other_fails : (p q : Bool) (f : Fraction) → q ≡ false → cond (p && q) (Some f) None ≡ None
other_fails false q f h = refl
other_fails true false f h = refl
other_fails true true f h = cc

both_hold : (p q : Bool) (f : Fraction) → p ≡ true → q ≡ true → cond (p && q) (Some f) None ≡ Some f
both_hold true true f hp hq = refl
both_hold false q f hp hq = cc
both_hold true false f hp hq = cc

pub product_of-wide_top : (a b : Fraction) → narrow (product_top a b) ≡ false → product_of a b ≡ None
unfolding product_of
product_of-wide_top a b h =
    one_fails (narrow (product_top a b)) (narrow (pos (product_bottom a b)))
    (record { num = product_top a b; den = product_bottom a b }) h

pub product_of-wide_bottom : (a b : Fraction) → narrow (pos (product_bottom a b)) ≡ false → product_of a b ≡ None
unfolding product_of
product_of-wide_bottom a b h =
    other_fails (narrow (product_top a b)) (narrow (pos (product_bottom a b)))
    (record { num = product_top a b; den = product_bottom a b }) h

pub product_of-narrow : (a b : Fraction) → narrow (product_top a b) ≡ true → narrow (pos (product_bottom a b)) ≡ true
    → product_of a b ≡ Some (record { num = product_top a b; den = product_bottom a b })
unfolding product_of
product_of-narrow a b p q =
    both_hold (narrow (product_top a b)) (narrow (pos (product_bottom a b)))
    (record { num = product_top a b; den = product_bottom a b }) p q

-- ---- what an answer tells of the tests

four_held : (p q r s : Bool) (f c : Fraction) → cond (p && (q && (r && s))) (Some f) None ≡ Some c
    → (f ≡ c) × (p ≡ true) × (q ≡ true) × (r ≡ true) × (s ≡ true)
four_held true true true true f c h = (cc, refl, refl, refl, refl)
four_held false q r s f c h = cc
four_held true false r s f c h = cc
four_held true true false s f c h = cc
four_held true true true false f c h = cc

one_of_four : (p q r s : Bool) (f : Fraction) → cond (p && (q && (r && s))) (Some f) None ≡ None
    → (p ≡ false) ⊎ ((q ≡ false) ⊎ ((r ≡ false) ⊎ (s ≡ false)))
one_of_four false q r s f h = inl refl
one_of_four true false r s f h = inr (inl refl)
one_of_four true true false s f h = inr (inr (inl refl))
one_of_four true true true false f h = inr (inr (inr refl))
one_of_four true true true true f h = cc

two_held : (p q : Bool) (f c : Fraction) → cond (p && q) (Some f) None ≡ Some c → (f ≡ c) × (p ≡ true) × (q ≡ true)
two_held true true f c h = (cc, refl, refl)
two_held false q f c h = cc
two_held true false f c h = cc

one_of_two : (p q : Bool) (f : Fraction) → cond (p && q) (Some f) None ≡ None → (p ≡ false) ⊎ (q ≡ false)
one_of_two false q f h = inl refl
one_of_two true false f h = inr refl
one_of_two true true f h = cc

pub sum_of-some : (a b c : Fraction) → sum_of a b ≡ Some c
    → (lowest (sum_top a b) (sum_bottom a b) ≡ c) × (narrow (sum_left a b) ≡ true) × (narrow (sum_right a b) ≡ true)
    × (narrow (sum_top a b) ≡ true) × (narrow (pos (sum_bottom a b)) ≡ true)
unfolding sum_of
sum_of-some a b c h =
    four_held (narrow (sum_left a b)) (narrow (sum_right a b)) (narrow (sum_top a b)) (narrow (pos (sum_bottom a b)))
    (lowest (sum_top a b) (sum_bottom a b)) c h

pub sum_of-none : (a b : Fraction) → sum_of a b ≡ None
    → (narrow (sum_left a b) ≡ false)
    ⊎ ((narrow (sum_right a b) ≡ false) ⊎ ((narrow (sum_top a b) ≡ false) ⊎ (narrow (pos (sum_bottom a b)) ≡ false)))
unfolding sum_of
sum_of-none a b h = one_of_four (narrow (sum_left a b)) (narrow (sum_right a b)) (narrow (sum_top a b))
    (narrow (pos (sum_bottom a b))) (lowest (sum_top a b) (sum_bottom a b)) h

pub product_of-some : (a b c : Fraction) → product_of a b ≡ Some c
    → (record { num = product_top a b; den = product_bottom a b } ≡ c) × (narrow (product_top a b) ≡ true)
    × (narrow (pos (product_bottom a b)) ≡ true)
unfolding product_of
product_of-some a b c h =
    two_held (narrow (product_top a b)) (narrow (pos (product_bottom a b)))
    (record { num = product_top a b; den = product_bottom a b }) c h

pub product_of-none : (a b : Fraction) → product_of a b ≡ None
    → (narrow (product_top a b) ≡ false) ⊎ (narrow (pos (product_bottom a b)) ≡ false)
unfolding product_of
product_of-none a b h =
    one_of_two (narrow (product_top a b)) (narrow (pos (product_bottom a b)))
    (record { num = product_top a b; den = product_bottom a b }) h
