-- Trusted: what the arithmetic means over the rational numbers, as equations of whole numbers of any size,
-- and what a greatest common divisor and a least common multiple are.
use Rattle.std.specs.Prelude.{◌≡◌, ◌≢◌, ℕ, ◌*◌, ◌^◌, ◌≤◌, ◌↔◌, ◌⊎◌, Option, Some, None, ℤ, pos, ◌+ℤ◌, ◌-ℤ◌, ◌*ℤ◌}
use Rattle.std.specs.Prelude.{unsigned_abs}
use Rattle.std.specs.Int.{◌∣◌}
use Rattle.bl_simplex.specs.Gcd.{gcd, lcm}
use Rattle.bl_simplex.specs.Fractions.{Fraction, IsReduced, sum_left, sum_right, sum_top, sum_bottom, product_top}
use Rattle.bl_simplex.specs.Fractions.{product_bottom, quotient_of}

-- c is a + b: over the common denominator both sides have one numerator
abbrev pub IsSum : Fraction → Fraction → Fraction → Type 0
IsSum a b c =
    c.num *ℤ pos (a.den * b.den) ≡ (a.num *ℤ pos b.den +ℤ b.num *ℤ pos a.den) *ℤ pos c.den

-- c is a - b
abbrev pub IsDifference : Fraction → Fraction → Fraction → Type 0
IsDifference a b c =
    c.num *ℤ pos (a.den * b.den) ≡ (a.num *ℤ pos b.den -ℤ b.num *ℤ pos a.den) *ℤ pos c.den

-- c is a · b
abbrev pub IsProduct : Fraction → Fraction → Fraction → Type 0
IsProduct a b c = c.num *ℤ pos (a.den * b.den) ≡ (a.num *ℤ b.num) *ℤ pos c.den

-- c is a / b: c · b is a
abbrev pub IsQuotient : Fraction → Fraction → Fraction → Type 0
IsQuotient a b c = IsProduct c b a

-- the magnitude is above 2^127 - 1
abbrev pub IsWide : ℤ → Type 0
IsWide z = 2 ^ 127 ≤ unsigned_abs z

-- a number on the way to the sum is wide
abbrev pub IsWideSum : Fraction → Fraction → Type 0
IsWideSum a b =
    IsWide (sum_left a b) ⊎ (IsWide (sum_right a b) ⊎ (IsWide (sum_top a b) ⊎ IsWide (pos (sum_bottom a b))))

-- a number on the way to the product is wide
abbrev pub IsWideProduct : Fraction → Fraction → Type 0
IsWideProduct a b = IsWide (product_top a b) ⊎ IsWide (pos (product_bottom a b))

-- the operation, where it gives a fraction, gives the one that R describes, in lowest terms
abbrev pub Gives : (Fraction → Fraction → Option Fraction) → (Fraction → Fraction → Fraction → Type 0) → Type 0
Gives operation R =
    (a b c : Fraction) → IsReduced a → IsReduced b → operation a b ≡ Some c → R a b c × IsReduced c

-- the operation gives no fraction exactly where a number on the way is wide
abbrev pub FailsWhere : (Fraction → Fraction → Option Fraction) → (Fraction → Fraction → Type 0) → Type 0
FailsWhere operation P = (a b : Fraction) → (operation a b ≡ None) ↔ P a b

-- the same of the quotient, by a fraction other than 0
abbrev pub QuotientGives : Type 0
QuotientGives =
    (a b c : Fraction) → IsReduced a → IsReduced b → b.num ≢ pos 0 → quotient_of a b ≡ Some c
    → IsQuotient a b c × IsReduced c

-- the greatest common divisor divides both numbers, and every common divisor divides it
pub record IsDivisor (a b : ℕ) : Type 0 where
  pub left : gcd a b ∣ a
  pub right : gcd a b ∣ b
  pub greatest : (d : ℕ) → d ∣ a → d ∣ b → d ∣ gcd a b

-- both numbers divide the least common multiple, and it divides every common multiple
pub record IsMultiple (a b : ℕ) : Type 0 where
  pub left : a ∣ lcm a b
  pub right : b ∣ lcm a b
  pub least : (m : ℕ) → a ∣ m → b ∣ m → lcm a b ∣ m

abbrev pub DivisorLaw : Type 0
DivisorLaw = (a b : ℕ) → IsDivisor a b

abbrev pub MultipleLaw : Type 0
MultipleLaw = (a b : ℕ) → IsMultiple a b
