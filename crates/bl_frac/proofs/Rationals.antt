-- The results of the operations are the rational ones.
use Rattle.std.proofs.Common.{◌≡◌, ℕ, zero, suc, ◌*◌, ◌/◌, ◌^◌, ◌<◌, inl, inr, ℤ, pos, negsuc, neg_ℤ, ◌+ℤ◌, ◌*ℤ◌}
use Rattle.std.proofs.Common.{unsigned_abs, int_div, refl, sym, ap, ◌∙◌, subst, arith}
use Rattle.std.specs.Prelude.{Some}
use Rattle.std.proofs.Math.Nat.{mul_comm, div-mul_cancel}
use Rattle.std.proofs.Math.IntN.{*ℤ_comm}
use Rattle.bl_simplex.specs.Gcd.{gcd}
use Rattle.bl_simplex.specs.Fractions.{Fraction, IsReduced, lowest, negated, reciprocal, with_sign_of, sum_left}
use Rattle.bl_simplex.specs.Fractions.{sum_right, sum_top, sum_bottom, sum_of, difference_of, product_top}
use Rattle.bl_simplex.specs.Fractions.{product_bottom, product_of, quotient_of}
use Rattle.bl_frac.specs.Laws.{IsQuotient, IsSum, IsDifference, IsProduct, IsWideSum, IsWideProduct, Gives}
use Rattle.bl_frac.specs.Laws.{QuotientGives, FailsWhere}
use Rattle.bl_frac.proofs.GcdLaws.{gcd_dvd_left, gcd_dvd_right, share_positive}
use Rattle.bl_whole.proofs.Products.{*ℤ_assoc, +ℤ-*ℤ, *ℤ-neg_ℤ, neg_ℤ-*ℤ}
use Rattle.bl_frac.proofs.WholeLaws.{neg-neg, scaled, share-times}
use Rattle.bl_frac.proofs.Signed.{narrow_from_test, wide_from_test, wide_test}
use Rattle.bl_frac.proofs.Ratios.{product_positive}
use Rattle.bl_frac.proofs.LowestTerms.{nonzero_size, IsReduced-reciprocal, IsReduced-lowest, IsReduced-product}
use Rattle.bl_frac.proofs.LowestTerms.{sum_bottom_positive}
use Rattle.bl_frac.proofs.Terms.{sum_of-some, sum_of-none, sum_of-wide_left, sum_of-wide_right, sum_of-wide_top}
use Rattle.bl_frac.proofs.Terms.{sum_of-wide_bottom, product_of-some, product_of-none, product_of-wide_top}
use Rattle.bl_frac.proofs.Terms.{product_of-wide_bottom}

lowest_num : (z : ℤ) (n : ℕ) → (lowest z n).num *ℤ pos (gcd (unsigned_abs z) n) ≡ z
unfolding lowest
lowest_num z n = share-times z (gcd (unsigned_abs z) n) (gcd_dvd_left (unsigned_abs z) n)

lowest_den : (z : ℤ) (n : ℕ) → (lowest z n).den * gcd (unsigned_abs z) n ≡ n
unfolding lowest
lowest_den z n = div-mul_cancel (gcd (unsigned_abs z) n) (gcd_dvd_right (unsigned_abs z) n)

-- what a sum's parts are over the product of the denominators
sum_over_product : (a b : Fraction) → a.num *ℤ pos b.den +ℤ b.num *ℤ pos a.den ≡ sum_top a b *ℤ pos (gcd a.den b.den)
sum_over_product a b =
    let g = gcd a.den b.den in
    let left : sum_left a b *ℤ pos g ≡ a.num *ℤ pos b.den =
    scaled a.num (b.den / g) g ∙ ap (λ n. a.num *ℤ pos n) (div-mul_cancel g (gcd_dvd_right a.den b.den)) in
    let right : sum_right a b *ℤ pos g ≡ b.num *ℤ pos a.den =
    scaled b.num (a.den / g) g ∙ ap (λ n. b.num *ℤ pos n) (div-mul_cancel g (gcd_dvd_left a.den b.den)) in
    sym (+ℤ-*ℤ (sum_left a b) (sum_right a b) (pos g) ∙ ap (λ z. z +ℤ sum_right a b *ℤ pos g) left
    ∙ ap (λ z. a.num *ℤ pos b.den +ℤ z) right)

bottom_over_product : (a b : Fraction) → a.den * b.den ≡ sum_bottom a b * gcd a.den b.den
bottom_over_product a b =
    let g = gcd a.den b.den in
    let e : (a.den / g) * g ≡ a.den = div-mul_cancel g (gcd_dvd_left a.den b.den) in
    ap (λ n. n * b.den) (sym e) ∙ omega arith

-- two numbers over one common factor
cross : (x t : ℤ) (k h g n : ℕ) → x *ℤ pos h ≡ t → k * h ≡ n → x *ℤ pos (n * g) ≡ (t *ℤ pos g) *ℤ pos k
cross x t k h g n ex ek =
    let size : n * g ≡ h * (g * k) = ap (λ m. m * g) (sym ek) ∙ omega arith in
    ap (λ m. x *ℤ pos m) size ∙ sym (scaled x h (g * k)) ∙ ap (λ z. z *ℤ pos (g * k)) ex ∙ sym (scaled t g k)

lowest_is_sum : (a b : Fraction) → IsSum a b (lowest (sum_top a b) (sum_bottom a b))
lowest_is_sum a b =
    let t = sum_top a b in
    let n = sum_bottom a b in
    let c = lowest t n in
    let g = gcd a.den b.den in
    ap (λ m. c.num *ℤ pos m) (bottom_over_product a b)
    ∙ cross c.num t c.den (gcd (unsigned_abs t) n) g n (lowest_num t n) (lowest_den t n)
    ∙ ap (λ z. z *ℤ pos c.den) (sym (sum_over_product a b))

pub sum_of-gives : Gives sum_of IsSum
sum_of-gives a b c ha hb h =
    let told = sum_of-some a b c h in (
      subst (IsSum a b) told.0 (lowest_is_sum a b),
      subst IsReduced told.0
          (IsReduced-lowest (sum_top a b) (sum_bottom a b) (narrow_from_test (sum_top a b) told.3)
          (narrow_from_test (pos (sum_bottom a b)) told.4) (sum_bottom_positive a b ha hb)),
    )

pub sum_of-fails : FailsWhere sum_of IsWideSum
sum_of-fails a b = (
  λ h. elim (sum_of-none a b h) [
    | inl p ↦ inl (wide_from_test (sum_left a b) p)
    | inr q ↦ elim q [
      | inl p ↦ inr (inl (wide_from_test (sum_right a b) p))
      | inr r ↦ elim r [
        | inl p ↦ inr (inr (inl (wide_from_test (sum_top a b) p)))
        | inr p ↦ inr (inr (inr (wide_from_test (pos (sum_bottom a b)) p)))
      ]
    ]
  ],
  λ h. elim h [
    | inl p ↦ sum_of-wide_left a b (wide_test (sum_left a b) p)
    | inr q ↦ elim q [
      | inl p ↦ sum_of-wide_right a b (wide_test (sum_right a b) p)
      | inr r ↦ elim r [
        | inl p ↦ sum_of-wide_top a b (wide_test (sum_top a b) p)
        | inr p ↦ sum_of-wide_bottom a b (wide_test (pos (sum_bottom a b)) p)
      ]
    ]
  ],
)

-- ---- the difference

magnitude-negated : (z : ℤ) → unsigned_abs (neg_ℤ z) ≡ unsigned_abs z
magnitude-negated (pos zero) = refl
magnitude-negated (pos (suc n)) = refl
magnitude-negated (negsuc n) = refl

IsReduced-negated : (f : Fraction) → IsReduced f → IsReduced (negated f)
IsReduced-negated f h = record {
  num_narrow = subst (λ n. n < 2 ^ 127) (sym (magnitude-negated f.num)) h.num_narrow;
  den_narrow = h.den_narrow;
  den_positive = h.den_positive;
  coprime = ap (λ n. gcd n f.den) (magnitude-negated f.num) ∙ h.coprime;
}

pub difference_of-gives : Gives difference_of IsDifference
unfolding difference_of
difference_of-gives a b c ha hb h =
    let told = sum_of-gives a (negated b) c ha (IsReduced-negated b hb) h in
    (told.0 ∙ ap (λ z. (a.num *ℤ pos b.den +ℤ z) *ℤ pos c.den) (neg_ℤ-*ℤ b.num (pos a.den)), told.1)

pub difference_of-fails : FailsWhere difference_of (λ a b. IsWideSum a (negated b))
unfolding difference_of
difference_of-fails a b = sum_of-fails a (negated b)

-- ---- the product

factors : (x y : ℤ) (g h : ℕ) → (x *ℤ pos g) *ℤ (y *ℤ pos h) ≡ (x *ℤ y) *ℤ pos (g * h)
factors x y g h =
    *ℤ_assoc x (pos g) (y *ℤ pos h)
    ∙ ap (λ z. x *ℤ z) (sym (*ℤ_assoc (pos g) y (pos h)) ∙ ap (λ z. z *ℤ pos h) (*ℤ_comm (pos g) y) ∙ scaled y g h)
    ∙ sym (*ℤ_assoc x y (pos (g * h)))

shares_are_product : (a b : Fraction) → IsProduct a b (record { num = product_top a b; den = product_bottom a b })
shares_are_product a b =
    let g = gcd (unsigned_abs a.num) b.den in
    let h = gcd (unsigned_abs b.num) a.den in
    let x = int_div a.num (pos g) in
    let y = int_div b.num (pos h) in
    let n = product_bottom a b in
    let first : x *ℤ pos g ≡ a.num = share-times a.num g (gcd_dvd_left (unsigned_abs a.num) b.den) in
    let second : y *ℤ pos h ≡ b.num = share-times b.num h (gcd_dvd_left (unsigned_abs b.num) a.den) in
    let third : (a.den / h) * h ≡ a.den = div-mul_cancel h (gcd_dvd_right (unsigned_abs b.num) a.den) in
    let fourth : (b.den / g) * g ≡ b.den = div-mul_cancel g (gcd_dvd_right (unsigned_abs a.num) b.den) in
    let size : a.den * b.den ≡ (g * h) * n =
    ap (λ m. m * b.den) (sym third) ∙ ap (λ m. (a.den / h) * h * m) (sym fourth) ∙ omega arith in
    ap (λ m. (x *ℤ y) *ℤ pos m) size ∙ sym (scaled (x *ℤ y) (g * h) n)
    ∙ ap (λ z. z *ℤ pos n) (sym (factors x y g h) ∙ ap (λ z. z *ℤ (y *ℤ pos h)) first ∙ ap (λ z. a.num *ℤ z) second)

pub product_of-gives : Gives product_of IsProduct
product_of-gives a b c ha hb h =
    let told = product_of-some a b c h in (
      subst (IsProduct a b) told.0 (shares_are_product a b),
      subst IsReduced told.0
          (IsReduced-product a b ha hb (narrow_from_test (product_top a b) told.1)
          (narrow_from_test (pos (product_bottom a b)) told.2)),
    )

pub product_of-fails : FailsWhere product_of IsWideProduct
product_of-fails a b = (
  λ h. elim (product_of-none a b h) [
    | inl p ↦ inl (wide_from_test (product_top a b) p)
    | inr p ↦ inr (wide_from_test (pos (product_bottom a b)) p)
  ],
  λ h. elim h [
    | inl p ↦ product_of-wide_top a b (wide_test (product_top a b) p)
    | inr p ↦ product_of-wide_bottom a b (wide_test (pos (product_bottom a b)) p)
  ],
)

-- ---- the quotient

by_natural : (m k : ℤ) (n d e f : ℕ) → k *ℤ pos (d * n) ≡ (m *ℤ pos e) *ℤ pos f
    → m *ℤ pos (f * e) ≡ (k *ℤ pos n) *ℤ pos d
by_natural m k n d e f h =
    ap (λ x. m *ℤ pos x) (mul_comm f e) ∙ sym (scaled m e f) ∙ sym h ∙ ap (λ x. k *ℤ pos x) (mul_comm d n)
    ∙ sym (scaled k n d)

by_negative : (m k : ℤ) (n d e f : ℕ) → k *ℤ pos (d * suc n) ≡ (m *ℤ neg_ℤ (pos e)) *ℤ pos f
    → m *ℤ pos (f * e) ≡ (k *ℤ negsuc n) *ℤ pos d
by_negative m k n d e f h =
    let flipped : (neg_ℤ m *ℤ pos e) *ℤ pos f ≡ (m *ℤ neg_ℤ (pos e)) *ℤ pos f =
    ap (λ z. z *ℤ pos f) (neg_ℤ-*ℤ m (pos e) ∙ sym (*ℤ-neg_ℤ m (pos e))) in
    let positive : neg_ℤ m *ℤ pos (f * e) ≡ (k *ℤ pos (suc n)) *ℤ pos d =
    by_natural (neg_ℤ m) k (suc n) d e f (h ∙ sym flipped) in
    sym (neg-neg (m *ℤ pos (f * e))) ∙ ap neg_ℤ (sym (neg_ℤ-*ℤ m (pos (f * e)))) ∙ ap neg_ℤ positive
    ∙ sym (neg_ℤ-*ℤ (k *ℤ pos (suc n)) (pos d)) ∙ ap (λ z. z *ℤ pos d) (sym (*ℤ-neg_ℤ k (pos (suc n))))

quotient_from_product : (a b c : Fraction) (z : ℤ) → b.num ≡ z
    → c.num *ℤ pos (a.den * unsigned_abs z) ≡ (a.num *ℤ with_sign_of z b.den) *ℤ pos c.den
    → a.num *ℤ pos (c.den * b.den) ≡ (c.num *ℤ z) *ℤ pos a.den
quotient_from_product a b c (pos n) e h = by_natural a.num c.num n a.den b.den c.den h
quotient_from_product a b c (negsuc n) e h = by_negative a.num c.num n a.den b.den c.den h

pub quotient_of-gives : QuotientGives
unfolding quotient_of
quotient_of-gives a b c ha hb nonzero h =
    let told = product_of-gives a (reciprocal b) c ha (IsReduced-reciprocal b hb nonzero) h in
    (quotient_from_product a b c b.num refl told.0, told.1)

pub quotient_of-fails : FailsWhere quotient_of (λ a b. IsWideProduct a (reciprocal b))
unfolding quotient_of
quotient_of-fails a b = product_of-fails a (reciprocal b)

-- ---- the same of fractions that may not be in lowest terms

pub sum_of-is : (a b c : Fraction) → sum_of a b ≡ Some c → IsSum a b c
sum_of-is a b c h = subst (IsSum a b) (sum_of-some a b c h).0 (lowest_is_sum a b)

pub difference_of-is : (a b c : Fraction) → difference_of a b ≡ Some c → IsDifference a b c
unfolding difference_of
difference_of-is a b c h =
    sum_of-is a (negated b) c h ∙ ap (λ z. (a.num *ℤ pos b.den +ℤ z) *ℤ pos c.den) (neg_ℤ-*ℤ b.num (pos a.den))

pub product_of-is : (a b c : Fraction) → product_of a b ≡ Some c → IsProduct a b c
product_of-is a b c h = subst (IsProduct a b) (product_of-some a b c h).0 (shares_are_product a b)

pub quotient_of-is : (a b c : Fraction) → quotient_of a b ≡ Some c → IsQuotient a b c
unfolding quotient_of
quotient_of-is a b c h = quotient_from_product a b c b.num refl (product_of-is a (reciprocal b) c h)

lowest_positive : (z : ℤ) (n : ℕ) → 0 < n → 0 < (lowest z n).den
unfolding lowest
lowest_positive z n h = share_positive n (gcd (unsigned_abs z) n) h (gcd_dvd_right (unsigned_abs z) n)

pub sum_of-positive : (a b c : Fraction) → 0 < a.den → 0 < b.den → sum_of a b ≡ Some c → 0 < c.den
sum_of-positive a b c ha hb h =
    let bottom : 0 < sum_bottom a b =
    product_positive (a.den / gcd a.den b.den) b.den
    (share_positive a.den (gcd a.den b.den) ha (gcd_dvd_left a.den b.den)) hb in
    subst (λ f. 0 < f.den) (sum_of-some a b c h).0 (lowest_positive (sum_top a b) (sum_bottom a b) bottom)

pub difference_of-positive : (a b c : Fraction) → 0 < a.den → 0 < b.den → difference_of a b ≡ Some c → 0 < c.den
unfolding difference_of
difference_of-positive a b c ha hb h = sum_of-positive a (negated b) c ha hb h

pub product_of-positive : (a b c : Fraction) → 0 < a.den → 0 < b.den → product_of a b ≡ Some c → 0 < c.den
product_of-positive a b c ha hb h =
    let left = share_positive a.den (gcd (unsigned_abs b.num) a.den) ha (gcd_dvd_right (unsigned_abs b.num) a.den) in
    let right = share_positive b.den (gcd (unsigned_abs a.num) b.den) hb (gcd_dvd_right (unsigned_abs a.num) b.den) in
    let P : Fraction → Type 0 = λ f. 0 < f.den in
    subst P (product_of-some a b c h).0
    (product_positive (a.den / gcd (unsigned_abs b.num) a.den) (b.den / gcd (unsigned_abs a.num) b.den) left right)

pub quotient_of-positive : (a b c : Fraction) → 0 < a.den → (b.num ≡ pos 0 → ⊥) → quotient_of a b ≡ Some c → 0 < c.den
unfolding quotient_of
quotient_of-positive a b c ha nonzero h = product_of-positive a (reciprocal b) c ha (nonzero_size b.num nonzero) h
