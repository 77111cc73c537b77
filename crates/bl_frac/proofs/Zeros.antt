-- The arithmetic at 0: what needs no work, and is never wide.
use Rattle.std.proofs.Common.{◌≡◌, ℕ, suc, ◌*◌, ◌/◌, ◌^◌, ◌<◌, ℤ, pos, negsuc, neg_ℤ, ◌+ℤ◌, ◌*ℤ◌, true, unsigned_abs}
use Rattle.std.proofs.Common.{int_div, sym, ap, ◌∙◌, subst, arith}
use Rattle.std.specs.Prelude.{Some}
use Rattle.std.proofs.Math.Nat.{div_self, div-one, zero-div, mul-one}
use Rattle.std.proofs.Math.IntN.{zero-*ℤ, *ℤ-zero, +ℤ_idr}
use Rattle.bl_whole.proofs.Products.{*ℤ_one}
use Rattle.bl_simplex.specs.Gcd.{gcd}
use Rattle.bl_simplex.specs.Fractions.{Fraction, IsReduced, narrow, lowest, reciprocal, sum_left, sum_right, sum_top}
use Rattle.bl_simplex.specs.Fractions.{sum_bottom, difference_of, product_top, product_bottom, product_of, quotient_of}
use Rattle.bl_frac.proofs.GcdLaws.{gcd_one, gcd_comm, gcd-zero}
use Rattle.bl_frac.proofs.Signed.{narrow_test}
use Rattle.bl_frac.proofs.LowestTerms.{IsReduced-reciprocal}
use Rattle.bl_frac.proofs.Terms.{sum_of-narrow, product_of-narrow}

abbrev pub nought : Fraction
nought = record { num = pos 0; den = 1 }

-- a reduced fraction with the numerator 0 is 0
pub nought_from_num : (f : Fraction) → IsReduced f → f.num ≡ pos 0 → f ≡ nought
nought_from_num f h e =
    let den : f.den ≡ 1 =
    sym (gcd-zero f.den) ∙ gcd_comm f.den 0 ∙ ap (λ z. gcd (unsigned_abs z) f.den) (sym e) ∙ h.coprime in
    let with_num : ℤ → Fraction = λ z. record { num = z; den = f.den } in
    let with_den : ℕ → Fraction = λ n. record { num = pos 0; den = n } in
    ap with_num e ∙ ap with_den den

share_of_nought : (n : ℕ) → int_div (pos 0) (pos n) ≡ pos 0
share_of_nought n = ap pos (zero-div n)

own_share : (n : ℕ) → 0 < n → n / gcd 0 n ≡ 1
own_share n h = ap (λ g. n / g) (gcd_comm 0 n ∙ gcd-zero n) ∙ div_self h

narrow_at : {z y : ℤ} → z ≡ y → unsigned_abs y < 2 ^ 127 → narrow z ≡ true
narrow_at {z} {y} e h = subst (λ x. narrow x ≡ true) (sym e) (narrow_test y h)

answer_of_product : (a b : Fraction) → product_top a b ≡ pos 0 → product_bottom a b ≡ 1 → product_of a b ≡ Some nought
answer_of_product a b top bottom =
    let num : ℤ → Fraction = λ z. record { num = z; den = product_bottom a b } in
    let den : ℕ → Fraction = λ n. record { num = pos 0; den = n } in
    product_of-narrow a b (narrow_at top (omega arith)) (narrow_at (ap pos bottom) (omega arith))
    ∙ ap Some (ap num top ∙ ap den bottom)

int_div-one : (z : ℤ) → int_div z (pos 1) ≡ z
int_div-one (pos n) = ap pos (div-one n)
int_div-one (negsuc n) = ap (λ k. neg_ℤ (pos k)) (div-one (suc n))

lowest_of_reduced : (f : Fraction) → IsReduced f → lowest f.num f.den ≡ f
unfolding lowest
lowest_of_reduced f h =
    let g = h.coprime in
    let num : ℤ → Fraction = λ z. record { num = z; den = f.den / gcd (unsigned_abs f.num) f.den } in
    let den : ℕ → Fraction = λ n. record { num = f.num; den = n } in
    ap num (ap (λ n. int_div f.num (pos n)) g ∙ int_div-one f.num) ∙ ap den (ap (λ n. f.den / n) g ∙ div-one f.den)

pub product_of-nought_left : (f : Fraction) → IsReduced f → product_of nought f ≡ Some nought
product_of-nought_left f h =
    let first : int_div (pos 0) (pos (gcd 0 f.den)) ≡ pos 0 = share_of_nought (gcd 0 f.den) in
    let top : product_top nought f ≡ pos 0 =
    ap (λ z. z *ℤ int_div f.num (pos (gcd (unsigned_abs f.num) 1))) first
    ∙ zero-*ℤ (int_div f.num (pos (gcd (unsigned_abs f.num) 1))) in
    let bottom : product_bottom nought f ≡ 1 =
    ap (λ g. (1 / g) * (f.den / gcd 0 f.den)) (gcd_one (unsigned_abs f.num))
    ∙ ap (λ n. 1 * n) (own_share f.den h.den_positive) in
    answer_of_product nought f top bottom

pub product_of-nought_right : (f : Fraction) → IsReduced f → product_of f nought ≡ Some nought
product_of-nought_right f h =
    let first : int_div (pos 0) (pos (gcd 0 f.den)) ≡ pos 0 = share_of_nought (gcd 0 f.den) in
    let top : product_top f nought ≡ pos 0 =
    ap (λ z. int_div f.num (pos (gcd (unsigned_abs f.num) 1)) *ℤ z) first
    ∙ *ℤ-zero (int_div f.num (pos (gcd (unsigned_abs f.num) 1))) in
    let bottom : product_bottom f nought ≡ 1 =
    ap (λ g. (f.den / gcd 0 f.den) * (1 / g)) (gcd_one (unsigned_abs f.num))
    ∙ ap (λ n. n * 1) (own_share f.den h.den_positive) in
    answer_of_product f nought top bottom

pub quotient_of-nought : (f : Fraction) → IsReduced f → (f.num ≡ pos 0 → ⊥) → quotient_of nought f ≡ Some nought
unfolding quotient_of
quotient_of-nought f h nonzero = product_of-nought_left (reciprocal f) (IsReduced-reciprocal f h nonzero)

-- to take away 0 leaves a fraction as it is
pub difference_of-nought : (f : Fraction) → IsReduced f → difference_of f nought ≡ Some f
unfolding difference_of lowest
difference_of-nought f h =
    let g : gcd f.den 1 ≡ 1 = gcd_one f.den in
    let left : sum_left f nought ≡ f.num = ap (λ n. f.num *ℤ pos (1 / n)) g ∙ *ℤ_one f.num in
    let right : sum_right f nought ≡ pos 0 = zero-*ℤ (pos (f.den / gcd f.den 1)) in
    let top : sum_top f nought ≡ f.num =
    ap (λ z. z +ℤ sum_right f nought) left ∙ ap (λ z. f.num +ℤ z) right ∙ +ℤ_idr f.num in
    let bottom : sum_bottom f nought ≡ f.den =
    ap (λ n. (f.den / n) * 1) g ∙ ap (λ n. n * 1) (div-one f.den) ∙ mul-one f.den in
    let value : lowest (sum_top f nought) (sum_bottom f nought) ≡ lowest f.num f.den =
    ap (λ z. lowest z (sum_bottom f nought)) top ∙ ap (lowest f.num) bottom in
    sum_of-narrow f nought
    (narrow_at left h.num_narrow) (narrow_at right (omega arith)) (narrow_at top h.num_narrow)
    (narrow_at (ap pos bottom) h.den_narrow)
    ∙ ap Some (value ∙ lowest_of_reduced f h)
