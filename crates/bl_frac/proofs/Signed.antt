-- What the code's numbers of 128 bits stand for.
use Rattle.std.proofs.Common.{◌≡◌, ℕ, ◌^◌, ◌*◌, ◌<◌, ◌≤◌, ℤ, pos, negsuc, ◌*ℤ◌, true, false, to_z, of_z, unsigned_abs}
use Rattle.std.proofs.Common.{FitsSigned, sym, ◌∙◌, ap, subst, lit<, arith}
use Rattle.std.specs.Int.{w64, w128}
use Rattle.std.proofs.lemmas.Bool.Decides.{nat_tests}
use Rattle.std.proofs.lemmas.Nat.{mul-le}
use Rattle.std.proofs.lemmas.Int.{to_z-of_z, to_z_pos, fits_signed_from_abs, unsigned_abs-mul}
use Rattle.std.specs.Prelude.{Result, Ok, Err}
use Rattle.bl_frac.specs.declared.fraction.WideFrac.{WideFrac}
use Rattle.bl_frac.specs.Narrowed.{IsNarrowed}
use Rattle.bl_simplex.specs.Fractions.{narrow}

pub narrow_fits : (z : ℤ) → unsigned_abs z < 2 ^ 127 → FitsSigned w128 z
narrow_fits z h = fits_signed_from_abs w128 z h

pub signed_back : (z : ℤ) → unsigned_abs z < 2 ^ 127 → to_z w128 (of_z w128 z) ≡ z
signed_back z h = to_z-of_z w128 z (narrow_fits z h)

pub signed_of : (n : ℕ) → n < 2 ^ 127 → to_z w128 n ≡ pos n
signed_of n h = to_z_pos w128 n h

pub narrow_test : (z : ℤ) → unsigned_abs z < 2 ^ 127 → narrow z ≡ true
narrow_test z h = grind (arith, nat_tests)

pub narrow_from_test : (z : ℤ) → narrow z ≡ true → unsigned_abs z < 2 ^ 127
narrow_from_test z h = grind (arith, nat_tests)

word_size : (z : ℤ) → FitsSigned w64 z → unsigned_abs z ≤ 2 ^ 63
word_size (pos n) h = omega (arith, h.sfits)
word_size (negsuc n) h = omega (arith, h.sfits)

narrow-product : (x y : ℤ) → unsigned_abs x ≤ 2 ^ 63 → unsigned_abs y ≤ 2 ^ 63 → unsigned_abs (x *ℤ y) < 2 ^ 127
narrow-product x y hx hy =
    let e = unsigned_abs-mul x y in
    let bound = mul-le (unsigned_abs x) (unsigned_abs y) (2 ^ 63) (2 ^ 63) hx hy in
    let size : 2 ^ 63 * 2 ^ 63 < 2 ^ 127 = lit< tt in
    omega (arith, e, bound, size)

-- what the product of two numbers of 64 bits is
pub word_product : (x y p q m n : ℤ) → FitsSigned w128 x → FitsSigned w128 y
    → FitsSigned w64 (to_z w128 (of_z w128 x)) × (p ≡ to_z w128 (of_z w128 x))
    → FitsSigned w64 (to_z w128 (of_z w128 y)) × (q ≡ to_z w128 (of_z w128 y)) → m ≡ to_z w64 (of_z w64 p)
    → n ≡ to_z w64 (of_z w64 q)
    → (to_z w128 (of_z w128 (to_z w128 (of_z w128 m) *ℤ to_z w128 (of_z w128 n))) ≡ x *ℤ y) × (narrow (x *ℤ y) ≡ true)
word_product x y p q m n hx hy hp hq hm hn =
    let ex = to_z-of_z w128 x hx in
    let ey = to_z-of_z w128 y hy in
    let fx : FitsSigned w64 x = subst (FitsSigned w64) ex hp.0 in
    let fy : FitsSigned w64 y = subst (FitsSigned w64) ey hq.0 in
    let px : p ≡ x = hp.1 ∙ ex in
    let qy : q ≡ y = hq.1 ∙ ey in
    let mx : m ≡ x = hm ∙ ap (λ z. to_z w64 (of_z w64 z)) px ∙ to_z-of_z w64 x fx in
    let ny : n ≡ y = hn ∙ ap (λ z. to_z w64 (of_z w64 z)) qy ∙ to_z-of_z w64 y fy in
    let size = narrow-product x y (word_size x fx) (word_size y fy) in
    let left : to_z w128 (of_z w128 m) ≡ x = ap (λ z. to_z w128 (of_z w128 z)) mx ∙ ex in
    let right : to_z w128 (of_z w128 n) ≡ y = ap (λ z. to_z w128 (of_z w128 z)) ny ∙ ey in (
      ap (λ z. to_z w128 (of_z w128 (z *ℤ to_z w128 (of_z w128 n)))) left
          ∙ ap (λ z. to_z w128 (of_z w128 (x *ℤ z))) right ∙ signed_back (x *ℤ y) size,
      narrow_test (x *ℤ y) size,
    )

-- a number of 64 bits is narrow
pub word_narrow : (n m : ℤ) → FitsSigned w64 n → m ≡ to_z w64 (of_z w64 n)
    → unsigned_abs (to_z w128 (of_z w128 m)) < 2 ^ 127
word_narrow n m h e =
    let same : m ≡ n = e ∙ to_z-of_z w64 n h in
    let small : unsigned_abs n < 2 ^ 127 = omega (arith, word_size n h) in
    let back : to_z w128 (of_z w128 m) ≡ n = ap (λ z. to_z w128 (of_z w128 z)) same ∙ signed_back n small in
    subst (λ z. unsigned_abs z < 2 ^ 127) (sym back) small

-- what a checked step gave is the number itself, and narrow
pub narrowed_value : (z y x : ℤ) (r : Result ℤ WideFrac) → IsNarrowed z r → r ≡ Ok x → z ≡ y
    → (x ≡ y) × (unsigned_abs y < 2 ^ 127) × (to_z w128 (of_z w128 x) ≡ y)
narrowed_value z y x r h e same =
    let both : (x ≡ z) × (narrow z ≡ true) = subst (IsNarrowed z) e h in
    let value : x ≡ y = both.0 ∙ same in
    let small : unsigned_abs y < 2 ^ 127 = narrow_from_test y (subst (λ w. narrow w ≡ true) same both.1) in
    (value, small, ap (λ w. to_z w128 (of_z w128 w)) value ∙ signed_back y small)

-- what a checked step refused is wide
pub narrowed_error : (z y : ℤ) (e : WideFrac) (r : Result ℤ WideFrac) → IsNarrowed z r → r ≡ Err e → z ≡ y
    → narrow y ≡ false
narrowed_error z y e r h is same = subst (λ w. narrow w ≡ false) same (subst (IsNarrowed z) is h)

-- a number that landed: what it is, that it is narrow, and how the code reads it again
pub landed : (x z y : ℤ) → (x ≡ z) × (narrow z ≡ true) → z ≡ y
    → (x ≡ y) × (narrow y ≡ true) × (to_z w128 (of_z w128 x) ≡ y)
landed x z y h same =
    let value : x ≡ y = h.0 ∙ same in
    let test : narrow y ≡ true = subst (λ w. narrow w ≡ true) same h.1 in
    (value, test, ap (λ w. to_z w128 (of_z w128 w)) value ∙ signed_back y (narrow_from_test y test))

-- what isn't narrow is wide
pub wide_from_test : (z : ℤ) → narrow z ≡ false → 2 ^ 127 ≤ unsigned_abs z
wide_from_test z h = grind (arith, nat_tests)

pub wide_test : (z : ℤ) → 2 ^ 127 ≤ unsigned_abs z → narrow z ≡ false
wide_test z h = grind (arith, nat_tests)
