-- Sizes of sums and products, and when they fit a width.
use Rattle.std.proofs.Common.{ℕ, zero, suc, ◌+◌, ◌*◌, ◌^◌, ◌<◌, ◌≤◌, arith, List, length, inl, inr}
use Rattle.std.specs.Prelude.{ℤ, pos, negsuc, ◌+ℤ◌, ◌-ℤ◌, ◌*ℤ◌, neg_ℤ, ◌≤ℤ◌, unsigned_abs, FitsSigned}
use Rattle.std.specs.Int.{Width}
use mir.Val.{hbits}
use Rattle.std.proofs.lemmas.Int.{ints, unsigned_abs-mul, fits_signed_from_abs}
use Rattle.std.proofs.lemmas.Nat.{mul-le}
use Rattle.std.proofs.lemmas.Bool.{cases_lt}
use Rattle.std.proofs.lemmas.List.{get_or_past}
use Rattle.std.proofs.Math.Nat.{mul-le-mul_right, lt_of_le_of_lt}
use Rattle.bl_whole.specs.Sums.{component, sum_below, dot}
use Rattle.bl_whole.specs.Within.{IsWithin, AreWithin, PartialDotsFit}

-- a size is a bound on both sides
pub within_low : {m : ℕ} {z : ℤ} → IsWithin m z → neg_ℤ (pos m) ≤ℤ z
within_low {m} {z = pos n} h = omega (arith, ints, h.magnitude)
within_low {m} {z = negsuc n} h = omega (arith, ints, h.magnitude)

pub within_high : {m : ℕ} {z : ℤ} → IsWithin m z → z ≤ℤ pos m
within_high {m} {z = pos n} h = omega (arith, ints, h.magnitude)
within_high {m} {z = negsuc n} h = omega (arith, ints, h.magnitude)

pub within_from_bounds : (m : ℕ) (z : ℤ) → neg_ℤ (pos m) ≤ℤ z → z ≤ℤ pos m → IsWithin m z
within_from_bounds m (pos n) low high = record { magnitude = omega (arith, ints) }
within_from_bounds m (negsuc n) low high = record { magnitude = omega (arith, ints) }

-- a greater size
pub within_more : {m n : ℕ} {z : ℤ} → IsWithin m z → m ≤ n → IsWithin n z
within_more h le = let a = h.magnitude in record { magnitude = omega arith }

pub within_zero : (m : ℕ) → IsWithin m (pos 0)
within_zero m = record { magnitude = omega arith }

pub within_sum : {m n : ℕ} {a b : ℤ} → IsWithin m a → IsWithin n b → IsWithin (m + n) (a +ℤ b)
within_sum {m} {n} {a} {b} p q =
    let p₁ = within_low p in let p₂ = within_high p in let q₁ = within_low q in let q₂ = within_high q in
    within_from_bounds (m + n) (a +ℤ b) (omega (arith, ints)) (omega (arith, ints))

pub within_difference : {m n : ℕ} {a b : ℤ} → IsWithin m a → IsWithin n b → IsWithin (m + n) (a -ℤ b)
within_difference {m} {n} {a} {b} p q =
    let p₁ = within_low p in let p₂ = within_high p in let q₁ = within_low q in let q₂ = within_high q in
    within_from_bounds (m + n) (a -ℤ b) (omega (arith, ints)) (omega (arith, ints))

pub within_negation : {m : ℕ} {a : ℤ} → IsWithin m a → IsWithin m (neg_ℤ a)
within_negation {m} {a} p =
    let p₁ = within_low p in let p₂ = within_high p in
    within_from_bounds m (neg_ℤ a) (omega (arith, ints)) (omega (arith, ints))

pub within_product : {m n : ℕ} {a b : ℤ} → IsWithin m a → IsWithin n b → IsWithin (m * n) (a *ℤ b)
within_product {m} {n} {a} {b} p q =
    record {
      magnitude =
          rw (unsigned_abs-mul a b) (mul-le (unsigned_abs a) (unsigned_abs b) m n p.magnitude q.magnitude);
    }

-- n summands of one size
pub within_sum_below : (m n : ℕ) (f : ℕ → ℤ) → ((k : ℕ) → k < n → IsWithin m (f k)) → IsWithin (n * m) (sum_below n f)
within_sum_below m zero f h = within_zero (0 * m)
within_sum_below m (suc n) f h =
    within_more (within_sum (within_sum_below m n f (λ k b. h k (omega arith))) (h n (omega arith))) (omega arith)

-- a number fits a width whose half is past its size
pub fits_from_within : (w : Width) {m : ℕ} {z : ℤ} → IsWithin m z → m < 2 ^ hbits w → FitsSigned w z
fits_from_within w {m} {z} h b = let a = h.magnitude in fits_signed_from_abs w z (omega arith)

pub sum_fits : (w : Width) {m n : ℕ} {a b : ℤ} → IsWithin m a → IsWithin n b → m + n < 2 ^ hbits w
    → FitsSigned w (a +ℤ b)
sum_fits w p q h = fits_from_within w (within_sum p q) h

pub product_fits : (w : Width) {m n : ℕ} {a b : ℤ} → IsWithin m a → IsWithin n b → m * n < 2 ^ hbits w
    → FitsSigned w (a *ℤ b)
product_fits w p q h = fits_from_within w (within_product p q) h

-- what a width holds has its size
pub within_from_fits : (w : Width) {z : ℤ} → FitsSigned w z → IsWithin (2 ^ hbits w) z
within_from_fits w {z = pos n} h = let b = h.sfits in record { magnitude = omega arith }
within_from_fits w {z = negsuc n} h = let b = h.sfits in record { magnitude = omega arith }

-- numbers within a size, at every place: past the end stands 0
pub within_entry : {m : ℕ} {xs : List ℤ} → AreWithin m xs → (k : ℕ) → IsWithin m (component xs k)
within_entry {m} {xs} h k =
    elim (cases_lt k (length xs)) [
      | inl b ↦ h.each k b
      | inr g ↦ rw (get_or_past xs k (pos 0) g) (within_zero m)
    ]

-- a sum of products by place
pub within_dot : {m n : ℕ} {cs zs : List ℤ} → AreWithin m cs → AreWithin n zs
    → IsWithin (length cs * (m * n)) (dot cs zs)
within_dot {m} {n} {cs} {zs} p q =
    within_sum_below (m * n) (length cs) (λ k. component cs k *ℤ component zs k)
    (λ k b. within_product (within_entry p k) (within_entry q k))

-- its first places fit a width that all of them fit
pub dots_fit : (w : Width) {m n : ℕ} {cs zs : List ℤ} → AreWithin m cs → AreWithin n zs
    → length cs * (m * n) < 2 ^ hbits w → PartialDotsFit w cs zs
dots_fit w {m} {n} {cs} {zs} p q h = record {
  each = λ k le.
      fits_from_within w
      (within_sum_below (m * n) k (λ j. component cs j *ℤ component zs j)
      (λ j b. within_product (within_entry p j) (within_entry q j)))
      (lt_of_le_of_lt (mul-le-mul_right (m * n) le) h);
}
