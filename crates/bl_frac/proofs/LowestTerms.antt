-- What the arithmetic makes is in lowest terms, with narrow parts.
use Rattle.std.proofs.Common.{◌≡◌, ℕ, zero, suc, ◌*◌, ◌/◌, ◌^◌, ◌<◌, ◌≤◌, ℤ, pos, negsuc, neg_ℤ, ◌-ℤ◌, ◌*ℤ◌, true}
use Rattle.std.proofs.Common.{false, to_z, of_z, unsigned_abs, int_div, refl, sym, ap, ◌∙◌, subst, arith}
use Rattle.std.specs.Int.{w128}
use Rattle.std.specs.Int.Signed.{lt_z}
use Rattle.std.proofs.lemmas.Int.{ints, unsigned_abs-mul}
use Rattle.std.proofs.Math.Nat.{div-le_self}
use Rattle.bl_simplex.specs.Gcd.{gcd}
use Rattle.bl_simplex.specs.Fractions.{Fraction, IsReduced, lowest, with_sign_of, reciprocal, sum_top, sum_bottom}
use Rattle.bl_simplex.specs.Fractions.{product_top, product_bottom}
use Rattle.bl_frac.proofs.GcdLaws.{gcd_comm, gcd_one, gcd_dvd_left, gcd_dvd_right, coprime_shares, share_positive}
use Rattle.bl_frac.proofs.Signed.{signed_back, signed_of}
use Rattle.bl_frac.proofs.Ratios.{not_below_zero, product_positive}
use Rattle.bl_frac.proofs.Shares.{magnitude-neg, magnitude-share, gcd_of_sum, coprime_products}

pub minus_natural : (n : ℕ) → pos 0 -ℤ pos n ≡ neg_ℤ (pos n)
minus_natural n = omega (arith, ints)

-- the parts of a fraction change places
swapped : (m : ℤ) (n : ℕ) (z : ℤ) (d : ℕ) → IsReduced (record { num = m; den = n }) → unsigned_abs z ≡ n
    → d ≡ unsigned_abs m → 0 < d → IsReduced (record { num = z; den = d })
swapped m n z d h ez ed some = record {
  num_narrow = subst (λ x. x < 2 ^ 127) (sym ez) h.den_narrow;
  den_narrow = subst (λ x. x < 2 ^ 127) (sym ed) h.num_narrow;
  den_positive = some;
  coprime = ap (λ x. gcd x d) ez ∙ ap (λ x. gcd n x) ed ∙ gcd_comm n (unsigned_abs m) ∙ h.coprime;
}

negative_size : (m : ℤ) → lt_z m (pos 0) ≡ true → 0 < unsigned_abs m
negative_size (pos n) h = absurd (not_below_zero n h)
negative_size (negsuc n) h = omega arith

pub nonzero_size : (m : ℤ) → (m ≡ pos 0 → ⊥) → 0 < unsigned_abs m
nonzero_size (pos zero) h = absurd (h refl)
nonzero_size (pos (suc n)) h = omega arith
nonzero_size (negsuc n) h = omega arith

pub IsReduced-reciprocal_of_negative : (m : ℤ) (n d : ℕ) → IsReduced (record { num = m; den = n })
    → d ≡ unsigned_abs (to_z w128 (of_z w128 m)) → lt_z (to_z w128 (of_z w128 m)) (pos 0) ≡ true
    → IsReduced (record { num = to_z w128 (of_z w128 (pos 0 -ℤ to_z w128 n)); den = d })
IsReduced-reciprocal_of_negative m n d h e below =
    let back = signed_back m h.num_narrow in
    let size : d ≡ unsigned_abs m = e ∙ ap unsigned_abs back in
    let negative : lt_z m (pos 0) ≡ true = subst (λ x. lt_z x (pos 0) ≡ true) back below in
    let turned : pos 0 -ℤ to_z w128 n ≡ neg_ℤ (pos n) =
    ap (λ x. pos 0 -ℤ x) (signed_of n h.den_narrow) ∙ minus_natural n in
    let small : unsigned_abs (neg_ℤ (pos n)) < 2 ^ 127 =
    subst (λ x. x < 2 ^ 127) (sym (magnitude-neg n)) h.den_narrow in
    let num : to_z w128 (of_z w128 (pos 0 -ℤ to_z w128 n)) ≡ neg_ℤ (pos n) =
    ap (λ x. to_z w128 (of_z w128 x)) turned ∙ signed_back (neg_ℤ (pos n)) small in
    swapped m n _ d h (ap unsigned_abs num ∙ magnitude-neg n) size
    (subst (λ x. 0 < x) (sym size) (negative_size m negative))

pub IsReduced-reciprocal_of_positive : (m : ℤ) (n d : ℕ) → IsReduced (record { num = m; den = n }) → (m ≡ pos 0 → ⊥)
    → d ≡ unsigned_abs (to_z w128 (of_z w128 m)) → lt_z (to_z w128 (of_z w128 m)) (pos 0) ≡ false
    → IsReduced (record { num = to_z w128 n; den = d })
IsReduced-reciprocal_of_positive m n d h nonzero e above =
    let back = signed_back m h.num_narrow in
    let size : d ≡ unsigned_abs m = e ∙ ap unsigned_abs back in
    swapped m n _ d h (ap unsigned_abs (signed_of n h.den_narrow)) size
    (subst (λ x. 0 < x) (sym size) (nonzero_size m nonzero))

pub IsReduced-whole : (z : ℤ) → unsigned_abs z < 2 ^ 127 → IsReduced (record { num = z; den = 1 })
IsReduced-whole z h =
    record { num_narrow = h; den_narrow = omega arith; den_positive = omega arith; coprime = gcd_one (unsigned_abs z) }

share_le : (n g : ℕ) → n / g ≤ n
share_le n g = div-le_self n g

-- lowest terms are reduced
pub IsReduced-lowest : (z : ℤ) (n : ℕ) → unsigned_abs z < 2 ^ 127 → n < 2 ^ 127 → 0 < n → IsReduced (lowest z n)
unfolding lowest
IsReduced-lowest z n hz hn some =
    let g = gcd (unsigned_abs z) n in
    let size : unsigned_abs (int_div z (pos g)) ≡ unsigned_abs z / g = magnitude-share z g in
    record {
      num_narrow = omega (arith, size, share_le (unsigned_abs z) g);
      den_narrow = omega (arith, share_le n g);
      den_positive = share_positive n g some (gcd_dvd_right (unsigned_abs z) n);
      coprime = ap (λ x. gcd x (n / g)) size ∙ coprime_shares (unsigned_abs z) n some;
    }

-- the parts of a sum, divided by what is common to the numerator and the greatest common divisor of the denominators
pub parts_of_sum : (a b : Fraction) (t s : ℤ) (bottom common k : ℕ) → IsReduced a → IsReduced b → t ≡ sum_top a b
    → bottom ≡ sum_bottom a b → common ≡ gcd (unsigned_abs (sum_top a b)) (gcd a.den b.den)
    → s ≡ int_div t (pos common) → k ≡ bottom / common
    → record { num = s; den = k } ≡ lowest (sum_top a b) (sum_bottom a b)
unfolding lowest
parts_of_sum a b t s bottom common k ha hb et eb ec es ek =
    let same : gcd (unsigned_abs (sum_top a b)) (sum_bottom a b) ≡ gcd (unsigned_abs (sum_top a b)) (gcd a.den b.den) =
    gcd_of_sum a.num b.num a.den b.den ha.den_positive hb.den_positive ha.coprime hb.coprime in
    let divisor : common ≡ gcd (unsigned_abs (sum_top a b)) (sum_bottom a b) = ec ∙ sym same in
    let num : s ≡ int_div (sum_top a b) (pos (gcd (unsigned_abs (sum_top a b)) (sum_bottom a b))) =
    es ∙ ap (λ x. int_div x (pos common)) et ∙ ap (λ x. int_div (sum_top a b) (pos x)) divisor in
    let den : k ≡ sum_bottom a b / gcd (unsigned_abs (sum_top a b)) (sum_bottom a b) =
    ek ∙ ap (λ x. x / common) eb ∙ ap (λ x. sum_bottom a b / x) divisor in
    cc

pub sum_bottom_positive : (a b : Fraction) → IsReduced a → IsReduced b → 0 < sum_bottom a b
sum_bottom_positive a b ha hb =
    product_positive (a.den / gcd a.den b.den) b.den
    (share_positive a.den (gcd a.den b.den) ha.den_positive (gcd_dvd_left a.den b.den)) hb.den_positive

-- the parts as the code stores them
pub stored : (s : ℤ) (k : ℕ) (f : Fraction) → record { num = s; den = k } ≡ f → IsReduced f
    → IsReduced (record { num = to_z w128 (of_z w128 s); den = k })
    × (record { num = to_z w128 (of_z w128 s); den = k } ≡ f)
stored s k f e h =
    let own : IsReduced (record { num = s; den = k }) = subst IsReduced (sym e) h in
    let back = signed_back s own.num_narrow in
    let make : ℤ → Fraction = λ z. record { num = z; den = k } in
    (subst (λ z. IsReduced (make z)) (sym back) own, ap make back ∙ e)

-- a numerator's share in a product
pub share_value : (m : ℤ) (u e l : ℕ) (s : ℤ) → unsigned_abs m < 2 ^ 127 → u ≡ unsigned_abs (to_z w128 (of_z w128 m))
    → l ≡ gcd u e → s ≡ int_div (to_z w128 (of_z w128 m)) (pos l)
    → (l ≡ gcd (unsigned_abs m) e) × (to_z w128 (of_z w128 s) ≡ int_div m (pos (gcd (unsigned_abs m) e)))
share_value m u e l s hm hu hl hs =
    let back = signed_back m hm in
    let divisor : l ≡ gcd (unsigned_abs m) e = hl ∙ ap (λ x. gcd x e) (hu ∙ ap unsigned_abs back) in
    let value : s ≡ int_div m (pos (gcd (unsigned_abs m) e)) =
    hs ∙ ap (λ z. int_div z (pos l)) back ∙ ap (λ x. int_div m (pos x)) divisor in
    let small : unsigned_abs (int_div m (pos (gcd (unsigned_abs m) e))) < 2 ^ 127 =
    omega (arith, magnitude-share m (gcd (unsigned_abs m) e), share_le (unsigned_abs m) (gcd (unsigned_abs m) e)) in
    (divisor, ap (λ z. to_z w128 (of_z w128 z)) value ∙ signed_back _ small)

-- the product of two denominators' shares
pub shares_product : (d e j k g h l m : ℕ) → d < 2 ^ 127 → e < 2 ^ 127 → j ≡ d / l → j ≤ d → k ≡ e / m → k ≤ e → l ≡ g
    → m ≡ h → to_z w128 j *ℤ to_z w128 k ≡ pos ((d / g) * (e / h))
shares_product d e j k g h l m hd he ej lj ek lk el em =
    let first : j < 2 ^ 127 = omega arith in
    let second : k < 2 ^ 127 = omega arith in
    ap (λ z. z *ℤ to_z w128 k) (signed_of j first) ∙ ap (λ z. pos j *ℤ z) (signed_of k second)
    ∙ ap (λ x. pos (x * k)) (ej ∙ ap (λ x. d / x) el) ∙ ap (λ x. pos ((d / g) * x)) (ek ∙ ap (λ x. e / x) em)

pub IsReduced-product : (a b : Fraction) → IsReduced a → IsReduced b → unsigned_abs (product_top a b) < 2 ^ 127
    → product_bottom a b < 2 ^ 127 → IsReduced (record { num = product_top a b; den = product_bottom a b })
IsReduced-product a b ha hb ht hd =
    let g = gcd (unsigned_abs a.num) b.den in
    let h = gcd (unsigned_abs b.num) a.den in
    let size : unsigned_abs (product_top a b) ≡ (unsigned_abs a.num / g) * (unsigned_abs b.num / h) =
    unsigned_abs-mul (int_div a.num (pos g)) (int_div b.num (pos h))
    ∙ ap (λ x. x * unsigned_abs (int_div b.num (pos h))) (magnitude-share a.num g)
    ∙ ap (λ x. (unsigned_abs a.num / g) * x) (magnitude-share b.num h) in
    record {
      num_narrow = ht;
      den_narrow = hd;
      den_positive =
          product_positive (a.den / h) (b.den / g)
          (share_positive a.den h ha.den_positive (gcd_dvd_right (unsigned_abs b.num) a.den))
          (share_positive b.den g hb.den_positive (gcd_dvd_right (unsigned_abs a.num) b.den));
      coprime =
          ap (λ x. gcd x (product_bottom a b)) size
          ∙ coprime_products (unsigned_abs a.num) a.den
          (unsigned_abs b.num) b.den ha.den_positive hb.den_positive ha.coprime hb.coprime;
    }

magnitude-with_sign_of : (z : ℤ) (n : ℕ) → unsigned_abs (with_sign_of z n) ≡ n
magnitude-with_sign_of (pos k) n = refl
magnitude-with_sign_of (negsuc k) n = magnitude-neg n

pub IsReduced-reciprocal : (f : Fraction) → IsReduced f → (f.num ≡ pos 0 → ⊥) → IsReduced (reciprocal f)
IsReduced-reciprocal f h nonzero =
    swapped f.num f.den _ _ h (magnitude-with_sign_of f.num f.den) refl (nonzero_size f.num nonzero)
