-- The value of a number as a quotient that leaves no rest.
use Rattle.std.proofs.Common.{◌≡◌, ℕ, zero, suc, ◌+◌, ◌*◌, ◌/◌, ◌%◌, ◌^◌, ◌<◌, Bool, true, false, cond, eqb, ltb}
use Rattle.std.proofs.Common.{length, ◌++◌, Option, Some, None, refl, sym, ap, subst, ◌∙◌, arith, ℤ, pos, negsuc, neg_ℤ}
use Rattle.std.proofs.Common.{◌*ℤ◌, unsigned_abs}
use Rattle.std.specs.Prelude.{int_lt}
use Rattle.std.specs.Str.Parse.{digits_value, without_leading_sign}
use Rattle.std.proofs.Math.Nat.{one-le-pow}
use Rattle.std.proofs.lemmas.Bool.{eqb-true}
use Rattle.std.proofs.lemmas.Bool.Decides.{nat_tests}
use Rattle.std.proofs.lemmas.Int.{unsigned_abs-mul}
use Rattle.std.proofs.lemmas.Nat.{div-add-mod', mul-le}
use Rattle.bl_num.specs.Numbers.{signed, exact_quotient, magnitude_of}
use Rattle.bl_num.specs.Grammar.{Number, fraction_digits, power, is_lowered, IsNumber}
use Rattle.bl_num.proofs.Quotients.{exact_quotient-split}
use Rattle.bl_num.proofs.Partings.{parts_in, exponent_part, part-power, part-lowered}

abbrev pub over : Number → ℕ
over n = digits_value 10 (n.whole ++ fraction_digits n.fraction) * 10 ^ cond (is_lowered n.exponent) 0
    (power n.exponent)

abbrev pub under : Number → ℕ
under n = 10 ^ (length (fraction_digits n.fraction) + cond (is_lowered n.exponent) (power n.exponent) 0)

-- the quotient, by the exponent's sign and magnitude
abbrev quotient_at : Number → Bool → ℕ → Option ℕ
quotient_at n lowered places =
    exact_quotient (digits_value 10 (n.whole ++ fraction_digits n.fraction) * 10 ^ cond lowered 0 places)
    (10 ^ (length (fraction_digits n.fraction) + cond lowered places 0))

pub magnitude_of-parts : (n : Number) → IsNumber n → magnitude_of (parts_in n) ≡ exact_quotient (over n) (under n)
unfolding magnitude_of
magnitude_of-parts n h =
    ap (λ (lowered : Bool). quotient_at n lowered (digits_value 10 (without_leading_sign (exponent_part n.exponent))))
    (part-lowered n.exponent h.exponent)
    ∙ ap (quotient_at n (is_lowered n.exponent)) (part-power n.exponent h.exponent)

pub under-positive : (n : Number) → 0 < under n
under-positive n = one-le-pow
    (length (fraction_digits n.fraction) + cond (is_lowered n.exponent) (power n.exponent) 0) 10 (omega arith)

abs-neg : (n : ℕ) → unsigned_abs (neg_ℤ (pos n)) ≡ n
abs-neg zero = refl
abs-neg (suc n) = refl

abs-signed : (negative : Bool) (n : ℕ) → unsigned_abs (signed negative n) ≡ n
abs-signed true n = abs-neg n
abs-signed false n = refl

not-positive : (m n : ℕ) → 0 < n → pos m ≡ neg_ℤ (pos n) → ⊥
not-positive m zero some e = absurd (omega arith)
not-positive m (suc n) some e = cc

positive-product : (k below : ℕ) → 0 < below → 0 < suc k * below
positive-product k below some = let h = mul-le 1 1 (suc k) below (omega arith) some in omega (arith, h)

worth-abs : (z : ℤ) (below : ℕ) (negative : Bool) (above : ℕ) → z *ℤ pos below ≡ signed negative above
    → above ≡ unsigned_abs z * below
worth-abs z below negative above e =
    sym (sym (unsigned_abs-mul z (pos below)) ∙ ap unsigned_abs e ∙ abs-signed negative above)

pub worth-sign : (z : ℤ) (below : ℕ) (negative : Bool) (above : ℕ) → 0 < below → z *ℤ pos below ≡ signed negative above
    → signed negative (unsigned_abs z) ≡ z
worth-sign (pos k) below false above some e = refl
worth-sign (pos zero) below true above some e = refl
worth-sign (pos (suc k)) below true above some e =
    let positive : 0 < above =
    subst (λ (n : ℕ). 0 < n) (sym (worth-abs (pos (suc k)) below true above e)) (positive-product k below some) in
    absurd (not-positive (suc k * below) above positive e)
worth-sign (negsuc k) below true above some e = refl
worth-sign (negsuc k) below false above some e =
    absurd (not-positive above (suc k * below) (positive-product k below some) (sym e))

pub worth-quotient : (z : ℤ) (below : ℕ) (negative : Bool) (above : ℕ) → 0 < below
    → z *ℤ pos below ≡ signed negative above → exact_quotient above below ≡ Some (unsigned_abs z)
worth-quotient z below negative above some e =
    exact_quotient-split above below (unsigned_abs z) 0 (omega (arith, worth-abs z below negative above e)) some

cond-exact : (test : Bool) (q m : ℕ) → cond test (Some q) None ≡ Some m → (test ≡ true) × (q ≡ m)
cond-exact true q m e = (refl, cc)
cond-exact false q m e = absurd cc

quotient-times : (above below m : ℕ) → exact_quotient above below ≡ Some m → above ≡ m * below
quotient-times above below m e =
    let both = cond-exact (eqb (above % below) 0) (above / below) m e in
    let rest : above % below ≡ 0 = eqb-true _ _ both.0 in
    omega (arith, div-add-mod' above below, rest, ap (λ (q : ℕ). q * below) both.1)

signed-times : (negative : Bool) (m below : ℕ) → signed negative m *ℤ pos below ≡ signed negative (m * below)
signed-times false m below = refl
signed-times true zero below = let none : 0 * below ≡ 0 = omega arith in rw none refl
signed-times true (suc m) below = refl

pub quotient-worth : (negative : Bool) (above below m : ℕ) → exact_quotient above below ≡ Some m
    → signed negative m *ℤ pos below ≡ signed negative above
quotient-worth negative above below m e =
    signed-times negative m below ∙ ap (signed negative) (sym (quotient-times above below m e))

not-below : (m : ℕ) → ltb (suc m) 0 ≡ false
not-below m = grind (arith, nat_tests)

lt-signed : (negative : Bool) (m : ℕ) → 0 < m → int_lt (signed negative m) (pos 0) ≡ negative
lt-signed negative zero some = absurd (omega arith)
lt-signed true (suc m) some = refl
lt-signed false (suc m) some = not-below m

pub sign-of : (z : ℤ) (negative : Bool) → 0 < unsigned_abs z → signed negative (unsigned_abs z) ≡ z
    → int_lt z (pos 0) ≡ negative
sign-of z negative some e = ap (λ (x : ℤ). int_lt x (pos 0)) (sym e) ∙ lt-signed negative (unsigned_abs z) some
