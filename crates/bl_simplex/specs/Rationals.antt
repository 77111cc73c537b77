-- Trusted: rational arithmetic on fractions of any size, not brought to lowest terms.
use Rattle.std.specs.Prelude.{◌≡◌, ℕ, zero, suc, ◌*◌, ◌/◌, ℤ, pos, ◌+ℤ◌, ◌-ℤ◌, ◌*ℤ◌, ◌≤ℤ◌, List, slice_index_or}
use Rattle.bl_simplex.specs.Gcd.{lcm}
use Rattle.bl_simplex.specs.Fractions.{Fraction, whole_fraction}

abbrev pub rational_sum : Fraction → Fraction → Fraction
rational_sum a b = record { num = a.num *ℤ pos b.den +ℤ b.num *ℤ pos a.den; den = a.den * b.den }

abbrev pub rational_difference : Fraction → Fraction → Fraction
rational_difference a b = record { num = a.num *ℤ pos b.den -ℤ b.num *ℤ pos a.den; den = a.den * b.den }

abbrev pub rational_product : Fraction → Fraction → Fraction
rational_product a b = record { num = a.num *ℤ b.num; den = a.den * b.den }

-- f 0 + f 1 + .. + f (n - 1)
abbrev pub rational_total : ℕ → (ℕ → Fraction) → Fraction
rational_total zero f = whole_fraction (pos 0)
rational_total (suc n) f = rational_sum (rational_total n f) (f n)

-- two fractions are one rational number
pub record SameRational (a b : Fraction) : Type 0 where
  pub cross : a.num *ℤ pos b.den ≡ b.num *ℤ pos a.den

-- the fraction is at most the whole number
pub record IsAtMost (a : Fraction) (z : ℤ) : Type 0 where
  pub cross : a.num ≤ℤ (z *ℤ pos a.den)

-- the fraction at a place of a list, 0 past the end
abbrev pub fraction_at : List Fraction → ℕ → Fraction
fraction_at xs k = slice_index_or xs k (whole_fraction (pos 0))

-- the least common multiple of the denominators of f 0, f 1, .. and f (n - 1)
abbrev pub common_denominator : ℕ → (ℕ → Fraction) → ℕ
common_denominator zero f = 1
common_denominator (suc n) f = lcm (common_denominator n f) (f n).den

-- f times the multiple m of its denominator, a whole number
abbrev pub times_multiple : ℕ → Fraction → ℤ
times_multiple m f = f.num *ℤ pos (m / f.den)
