-- Shares of whole numbers.
use Rattle.std.proofs.Common.{◌≡◌, ℕ, zero, suc, ◌*◌, ◌/◌, ℤ, pos, negsuc, neg_ℤ, ◌*ℤ◌, unsigned_abs, int_div, refl, ap}
use Rattle.std.proofs.Common.{◌∙◌}
use Rattle.std.specs.Int.{◌∣◌}
use Rattle.std.proofs.Math.Nat.{div-mul_cancel}
use Rattle.bl_whole.proofs.Products.{*ℤ_assoc, neg_ℤ-*ℤ}

pub neg-neg : (z : ℤ) → neg_ℤ (neg_ℤ z) ≡ z
neg-neg (pos zero) = refl
neg-neg (pos (suc n)) = refl
neg-neg (negsuc n) = refl

-- two natural factors are one
pub scaled : (z : ℤ) (a b : ℕ) → (z *ℤ pos a) *ℤ pos b ≡ z *ℤ pos (a * b)
scaled z a b = *ℤ_assoc z (pos a) (pos b)

-- a share of a whole number, times what it was divided by
pub share-times : (z : ℤ) (g : ℕ) → g ∣ unsigned_abs z → int_div z (pos g) *ℤ pos g ≡ z
share-times (pos n) g h = ap pos (div-mul_cancel g h)
share-times (negsuc n) g h =
    neg_ℤ-*ℤ (pos (suc n / g)) (pos g) ∙ ap (λ k. neg_ℤ (pos k)) (div-mul_cancel g h)
