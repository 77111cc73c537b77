-- Trusted: fractions of two whole numbers, and the arithmetic that keeps both parts within 128 bits.
-- A part is narrow where its magnitude is at most 2^127 - 1.
use Rattle.std.specs.Prelude.{◌≡◌, ℕ, ◌*◌, ◌/◌, ◌^◌, ◌<◌, Bool, ◌&&◌, nat_lt, Option, Some, None, if◌then◌else◌, ℤ, pos}
use Rattle.std.specs.Prelude.{negsuc, neg_ℤ, ◌+ℤ◌, ◌*ℤ◌, unsigned_abs, int_div}
use Rattle.std.specs.declared.cmp.Ordering.{Ordering}
use Rattle.std.specs.Ordering.{int_cmp}
use Rattle.bl_simplex.specs.Gcd.{gcd}

-- numerator over denominator
pub record Fraction : Type 0 where
  pub num : ℤ
  pub den : ℕ

abbrev pub whole_fraction : ℤ → Fraction
whole_fraction z = record { num = z; den = 1 }

-- in lowest terms, with a positive denominator and narrow parts
pub record IsReduced (f : Fraction) : Type 0 where
  pub num_narrow : unsigned_abs f.num < 2 ^ 127
  pub den_narrow : f.den < 2 ^ 127
  pub den_positive : 0 < f.den
  pub coprime : gcd (unsigned_abs f.num) f.den ≡ 1

-- the magnitude is at most 2^127 - 1
abbrev pub narrow : ℤ → Bool
narrow z = nat_lt (unsigned_abs z) (2 ^ 127)

-- the fraction of two parts, brought to lowest terms
unfoldable pub lowest : ℤ → ℕ → Fraction
lowest z n =
    let g = gcd (unsigned_abs z) n in
    record { num = int_div z (pos g); den = n / g }

-- ---- the sum: with g the greatest common divisor of the denominators, what each numerator and the denominator become

abbrev pub sum_left : Fraction → Fraction → ℤ
sum_left a b = a.num *ℤ pos (b.den / gcd a.den b.den)

abbrev pub sum_right : Fraction → Fraction → ℤ
sum_right a b = b.num *ℤ pos (a.den / gcd a.den b.den)

abbrev pub sum_top : Fraction → Fraction → ℤ
sum_top a b = sum_left a b +ℤ sum_right a b

abbrev pub sum_bottom : Fraction → Fraction → ℕ
sum_bottom a b = (a.den / gcd a.den b.den) * b.den

-- each number on the way is narrow
abbrev pub sum_is_narrow : Fraction → Fraction → Bool
sum_is_narrow a b =
    narrow (sum_left a b) && (narrow (sum_right a b) && (narrow (sum_top a b) && narrow (pos (sum_bottom a b))))

-- the sum in lowest terms, or none where a number on the way isn't narrow
unfoldable pub sum_of : Fraction → Fraction → Option Fraction
sum_of a b = if sum_is_narrow a b then Some (lowest (sum_top a b) (sum_bottom a b)) else None

abbrev pub negated : Fraction → Fraction
negated f = record { num = neg_ℤ f.num; den = f.den }

-- the difference is the sum with the negation
unfoldable pub difference_of : Fraction → Fraction → Option Fraction
difference_of a b = sum_of a (negated b)

-- ---- the product: each numerator and the other denominator are first divided by their greatest common divisor

abbrev pub product_top : Fraction → Fraction → ℤ
product_top a b =
    int_div a.num (pos (gcd (unsigned_abs a.num) b.den)) *ℤ int_div b.num (pos (gcd (unsigned_abs b.num) a.den))

abbrev pub product_bottom : Fraction → Fraction → ℕ
product_bottom a b =
    (a.den / gcd (unsigned_abs b.num) a.den) * (b.den / gcd (unsigned_abs a.num) b.den)

-- both products are narrow
abbrev pub product_is_narrow : Fraction → Fraction → Bool
product_is_narrow a b = narrow (product_top a b) && narrow (pos (product_bottom a b))

-- the product, in lowest terms, or none where one of the two products isn't narrow
unfoldable pub product_of : Fraction → Fraction → Option Fraction
product_of a b =
    if product_is_narrow a b then Some (record { num = product_top a b; den = product_bottom a b }) else None

-- the magnitude n with the sign of z
abbrev pub with_sign_of : ℤ → ℕ → ℤ
with_sign_of (pos k) n = pos n
with_sign_of (negsuc k) n = neg_ℤ (pos n)

-- one over f, for a numerator other than 0
abbrev pub reciprocal : Fraction → Fraction
reciprocal f = record { num = with_sign_of f.num f.den; den = unsigned_abs f.num }

-- the quotient is the product with the reciprocal
unfoldable pub quotient_of : Fraction → Fraction → Option Fraction
quotient_of a b = product_of a (reciprocal b)

-- ---- the order: a/b against c/d as a·d against c·b, over whole numbers of any size

unfoldable pub order_of : Fraction → Fraction → Ordering
order_of a b = int_cmp (a.num *ℤ pos b.den) (b.num *ℤ pos a.den)
