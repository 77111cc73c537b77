-- Common denominators.
use Rattle.std.proofs.Common.{◌≡◌, ◌≢◌, ℕ, zero, suc, ◌+◌, ◌-◌, ◌*◌, ◌/◌, ◌<◌, ◌≤◌, ◌⊎◌, inl, inr, ℤ, pos, ◌*ℤ◌, List}
use Rattle.std.proofs.Common.{length, unsigned_abs, refl, sym, ap, ◌∙◌, subst, arith, add-one, ◌^◌, ◌++◌, [], ◌∷◌, to_z}
use Rattle.std.proofs.Common.{of_z, below_more, length-append}
use Rattle.std.specs.Int.{◌∣◌, w128}
use Rattle.bl_whole.specs.Sums.{component}
use Rattle.bl_frac.proofs.Signed.{signed_back}
use Rattle.std.proofs.Math.Nat.{le_of_dvd, dvd_trans, div-mul_cancel}
use Rattle.std.proofs.lemmas.List.{get_or_append_left, get_or_push}
use Rattle.std.proofs.lemmas.Bool.{cases_eq}
use Rattle.std.proofs.lemmas.Int.{ints, unsigned_abs-mul}
use Rattle.bl_simplex.specs.Gcd.{gcd, lcm}
use Rattle.bl_simplex.specs.Fractions.{Fraction, IsReduced, whole_fraction}
use Rattle.bl_simplex.specs.Rationals.{fraction_at, common_denominator, times_multiple}
use Rattle.bl_frac.proofs.GcdLaws.{share_positive as positive_share}
use Rattle.bl_frac.proofs.Multiples.{dvd_lcm_left, dvd_lcm_right, lcm_positive}
use Rattle.bl_tableau.specs.Cells.{AreReduced}

pub lcm_least_right : (a b : ℕ) → 0 < a → 0 < b → b ≤ lcm a b
lcm_least_right a b ha hb = le_of_dvd (lcm_positive a b ha hb) (dvd_lcm_right a b)

pub lcm_least_left : (a b : ℕ) → 0 < a → 0 < b → a ≤ lcm a b
lcm_least_left a b ha hb = le_of_dvd (lcm_positive a b ha hb) (dvd_lcm_left a b)

pub common_positive : (n : ℕ) (f : ℕ → Fraction) → ((k : ℕ) → k < n → 0 < (f k).den) → 0 < common_denominator n f
common_positive zero f h = omega arith
common_positive (suc n) f h =
    lcm_positive (common_denominator n f) (f n).den (common_positive n f (λ k l. h k (omega arith))) (h n (omega arith))

pub common_divides : (n : ℕ) (f : ℕ → Fraction) (k : ℕ) → k < n → (f k).den ∣ common_denominator n f
common_divides zero f k l = absurd (omega arith)
common_divides (suc n) f k l = by (common_divides n f k) (cases_eq k n)
  where
    by : (k < n → (f k).den ∣ common_denominator n f) → (k ≡ n) ⊎ (k ≢ n)
        → (f k).den ∣ lcm (common_denominator n f) (f n).den
    by earlier (inl same) =
        subst (λ i. (f i).den ∣ lcm (common_denominator n f) (f n).den) (sym same)
        (dvd_lcm_right (common_denominator n f) (f n).den)
    by earlier (inr other) =
        dvd_trans (f k).den (earlier (omega arith)) (dvd_lcm_left (common_denominator n f) (f n).den)

pub common_more : (n : ℕ) (f : ℕ → Fraction) → common_denominator (n + 1) f ≡ lcm (common_denominator n f) (f n).den
common_more n f = ap (λ m. common_denominator m f) (add-one n)

-- the first denominators' multiple is at most that of all
pub common_grows : (n d : ℕ) (f : ℕ → Fraction) → ((k : ℕ) → k < n + d → 0 < (f k).den)
    → common_denominator n f ≤ common_denominator (n + d) f
common_grows n zero f h = let e : n + 0 ≡ n = omega arith in rw e (omega arith)
common_grows n (suc d) f h =
    let e : n + suc d ≡ suc (n + d) = omega arith in
    let less = common_grows n d f (λ k l. h k (omega arith)) in
    let more = lcm_least_left (common_denominator (n + d) f) (f (n + d)).den
    (common_positive (n + d) f (λ k l. h k (omega arith))) (h (n + d) (omega arith)) in
    rw e (omega arith)

pub dens_positive : (fs : List Fraction) → AreReduced fs → (k : ℕ) → k < length fs → 0 < (fraction_at fs k).den
dens_positive fs r k l = (r.each k l).den_positive

pub lcm_is : (a b g : ℕ) → g ≡ gcd a b → a / g * b ≡ lcm a b
unfolding lcm
lcm_is a b g e = ap (λ x. a / x * b) e

-- where the multiple passes a limit with one more denominator, it does with all
pub common_passes : (n most common den : ℕ) (f : ℕ → Fraction) (k : ℕ) → k < n → ((j : ℕ) → j < n → 0 < (f j).den)
    → common ≡ common_denominator k f → den ≡ (f k).den
    → (lcm common den ≤ most → ⊥) → common_denominator n f ≤ most → ⊥
common_passes n most common den f k l positive ec ed past h =
    let e : (k + 1) + (n - (k + 1)) ≡ n = omega arith in
    let grows = common_grows (k + 1) (n - (k + 1)) f (λ j b. positive j (omega arith)) in
    let whole : common_denominator (k + 1) f ≤ common_denominator n f =
    subst (λ m. common_denominator (k + 1) f ≤ common_denominator m f) e grows in
    let more = common_more k f in
    let same : lcm common den ≡ common_denominator (k + 1) f =
    ap (λ c. lcm c den) ec ∙ ap (λ d. lcm (common_denominator k f) d) ed ∙ sym more in
    past (omega arith)

pub common_next : (common den : ℕ) (f : ℕ → Fraction) (k : ℕ) → common ≡ common_denominator k f → den ≡ (f k).den
    → lcm common den ≡ common_denominator (k + 1) f
common_next common den f k ec ed =
    ap (λ c. lcm c den) ec ∙ ap (λ d. lcm (common_denominator k f) d) ed ∙ sym (common_more k f)

-- a share of a positive multiple is positive
pub share_positive : (common den : ℕ) → 0 < common → 0 < den → den ∣ common → 0 < common / den
share_positive common den hc hd h = positive_share common den hc h

-- the denominator that was read
pub den_read : (r : ℤ × ℤ) (num : ℤ) (d n : ℕ) → d < 2 ^ 127 → r ≡ (num, pos d)
    → n ≡ unsigned_abs (to_z w128 (of_z w128 r.1)) → n ≡ d
den_read r num d n small er en =
    en ∙ ap (λ p. unsigned_abs (to_z w128 (of_z w128 p.1))) er ∙ ap unsigned_abs (signed_back (pos d) small)

-- the whole numbers so far, and one more
pub record WholeSoFar (fs : List Fraction) (common : ℕ) (xs : List ℤ) (k : ℕ) : Type 0 where
  pub size : length xs ≡ k
  pub each : (j : ℕ) → j < k → component xs j ≡ times_multiple common (fraction_at fs j)
  pub small : (j : ℕ) → j < k → unsigned_abs (times_multiple common (fraction_at fs j)) ≤ 2 ^ 50

pub whole_more : (fs : List Fraction) (common : ℕ) (xs ys : List ℤ) (k : ℕ) (x : ℤ) → WholeSoFar fs common xs k
    → ys ≡ xs ++ x ∷ [] → x ≡ times_multiple common (fraction_at fs k)
    → unsigned_abs (times_multiple common (fraction_at fs k)) ≤ 2 ^ 50 → WholeSoFar fs common ys (k + 1)
whole_more fs common xs ys k x so ey ex small = record {
  size = ap length ey ∙ length-append xs (x ∷ []) ∙ omega (arith, so.size);
  each = below_more _ k
      (λ j l. ap (λ zs. component zs j) ey ∙ get_or_append_left xs (x ∷ []) (pos 0) j (omega (arith, so.size))
      ∙ so.each j l) (ap (λ zs. component zs k) ey ∙ get_or_push xs x (pos 0) k so.size ∙ ex);
  small = below_more _ k so.small small;
}

abbrev pub zero_fraction : Fraction
zero_fraction = whole_fraction (pos 0)

pub lcm_positive_at : (a b n : ℕ) → n ≡ lcm a b → 0 < a → 0 < b → 0 < n
lcm_positive_at a b n e ha hb = let h = lcm_positive a b ha hb in omega arith
