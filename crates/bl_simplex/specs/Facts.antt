-- Facts on a worked problem, by which the definitions can be tried: minimise -x - 10y for x and y from 0 to 10 where
-- -25x + 20y <= 30, x + 2y <= 10, 2x - y <= 15 and -2x - 10y <= -15 (Moore and Bard 1990).
use Rattle.std.specs.Prelude.{◌≡◌, ℕ, ℤ, pos, negsuc, Some, [], ◌∷◌}
use Rattle.bl_terms.specs.Points.{Linear}
use Rattle.bl_terms.specs.Bounds.{Problem}
use Rattle.bl_simplex.specs.Gcd.{gcd, lcm}
use Rattle.bl_simplex.specs.Fractions.{Fraction, lowest, sum_of, product_of, quotient_of}
use Rattle.bl_simplex.specs.Dictionaries.{opening}
use Rattle.bl_simplex.specs.Pivots.{replay}

abbrev pub row_of : ℤ → ℤ → ℤ → Linear
row_of a b rhs = record { coef = a ∷ b ∷ []; rhs = rhs }

abbrev pub moore_bard : Problem
moore_bard = record {
  rows = row_of (negsuc 24) (pos 20) (pos 30) ∷ row_of (pos 1) (pos 2) (pos 10) ∷ row_of (pos 2) (negsuc 0) (pos 15)
      ∷ row_of (negsuc 1) (negsuc 9) (negsuc 14) ∷ [];
  cost = negsuc 0 ∷ negsuc 9 ∷ [];
  area = record { lo = pos 0 ∷ pos 0 ∷ []; hi = pos 10 ∷ pos 10 ∷ [] };
}

abbrev pub fraction_of : ℤ → ℕ → Fraction
fraction_of a b = record { num = a; den = b }

-- the cost row's entries and right side, in the opening dictionary and after one pivot and two
pub record WorkedPivots : Type 0 where
  pub opening_first : (opening moore_bard).place 6 0 ≡ fraction_of (negsuc 0) 1
  pub opening_second : (opening moore_bard).place 6 1 ≡ fraction_of (negsuc 9) 1
  pub opening_value : (opening moore_bard).place 6 2 ≡ fraction_of (negsuc 109) 1
  pub once_second : (replay (opening moore_bard) ((1, 0) ∷ [])).place 6 1 ≡ fraction_of (negsuc 7) 1
  pub once_value : (replay (opening moore_bard) ((1, 0) ∷ [])).place 6 2 ≡ fraction_of (negsuc 89) 1
  pub once_label : (replay (opening moore_bard) ((1, 0) ∷ [])).column_label 0 ≡ 3
  pub twice_first : (replay (opening moore_bard) ((1, 0) ∷ (0, 1) ∷ [])).place 6 0 ≡ fraction_of (negsuc 26) 7
  pub twice_second : (replay (opening moore_bard) ((1, 0) ∷ (0, 1) ∷ [])).place 6 1 ≡ fraction_of (negsuc 3) 35
  pub twice_value : (replay (opening moore_bard) ((1, 0) ∷ (0, 1) ∷ [])).place 6 2 ≡ fraction_of (negsuc 41) 1

-- divisors, multiples and the arithmetic on a few fractions
pub record WorkedFractions : Type 0 where
  pub divisor : gcd 84 120 ≡ 12
  pub divisor_of_nothing : gcd 5 0 ≡ 5
  pub multiple : lcm 84 120 ≡ 840
  pub brought_to_lowest_terms : lowest (negsuc 83) 120 ≡ fraction_of (negsuc 6) 10
  pub sum : sum_of (fraction_of (pos 1) 6) (fraction_of (pos 1) 10) ≡ Some (fraction_of (pos 4) 15)
  pub product : product_of (fraction_of (negsuc 3) 3) (fraction_of (pos 3) 8) ≡ Some (fraction_of (negsuc 0) 2)
  pub quotient : quotient_of (fraction_of (pos 1) 2) (fraction_of (negsuc 0) 3) ≡ Some (fraction_of (negsuc 2) 2)
