-- Every sum of a bound proof fits 128 bits.
use Rattle.std.proofs.Common.{ℕ, ◌+◌, ◌*◌, ◌^◌, ◌≤◌, arith, Bool, true, false, cond, length}
use Rattle.std.specs.Prelude.{pos, ◌-ℤ◌, ◌*ℤ◌, int_lt}
use Rattle.std.specs.Int.{w64, w128}
use Rattle.std.proofs.lemmas.Int.{ints}
use Rattle.bl_whole.specs.Sums.{component, sum_below}
use Rattle.bl_limits.specs.declared.TheConstants.{MAX_NUMBER, MAX_PROBLEM_COEFFICIENT, MAX_PROBLEM_RHS}
use Rattle.bl_whole.specs.Within.{IsWithin}
use Rattle.bl_whole.proofs.WithinLemmas.{within_from_bounds, within_more, within_sum, within_difference, within_product}
use Rattle.bl_whole.proofs.WithinLemmas.{within_sum_below, within_entry, within_from_fits, fits_from_within}
use Rattle.bl_terms.specs.Bounds.{Problem, linear_at, Fits, Multipliers, AreMultipliers, reduced_cost, least_term}
use Rattle.bl_terms.specs.Bounds.{reduced_cost_size, BoundSumsFit}

-- the multipliers are within 2^50, and 0 past the end
mult_within : (w : Multipliers) → AreMultipliers w → (i : ℕ) → IsWithin (2 ^ 50) (component w.mult i)
mult_within w g = within_entry
    (record {
      each = λ i b. let l = g.least i b in let h = g.most i b in
          within_from_bounds (2 ^ 50) (component w.mult i) (omega (arith, ints)) h;
    })

rows_part_within : (q : Problem) (w : Multipliers) → Fits q → AreMultipliers w → (j m : ℕ) → m ≤ length q.rows
    → IsWithin (m * (2 ^ 50 * MAX_PROBLEM_COEFFICIENT))
    (sum_below m (λ i. component w.mult i *ℤ component (linear_at q.rows i).coef j))
rows_part_within q w f g j m b =
    within_sum_below (2 ^ 50 * MAX_PROBLEM_COEFFICIENT) m
    (λ i. component w.mult i *ℤ component (linear_at q.rows i).coef j)
    (λ i c. within_product (mult_within w g i) (within_entry (f.coefs i (omega arith)) j))

den_within : (w : Multipliers) → AreMultipliers w → IsWithin (2 ^ 50) w.den
den_within w g = let l = g.den_least in let h = g.den_most in within_from_bounds (2 ^ 50) w.den (omega (arith, ints)) h

reduced_within : (q : Problem) (w : Multipliers) → Fits q → AreMultipliers w → (j : ℕ)
    → IsWithin reduced_cost_size (reduced_cost q w j)
reduced_within q w f g j =
    let m = length q.rows in
    let few = f.few_rows in
    within_more (within_sum (within_product (den_within w g) (within_entry f.costs j))
    (rows_part_within q w f g j m (omega arith))) (omega arith)

least_term_within : (q : Problem) (w : Multipliers) → Fits q → AreMultipliers w → (j : ℕ)
    → IsWithin (reduced_cost_size * MAX_NUMBER) (least_term q w j)
least_term_within q w f g j = by (int_lt (reduced_cost q w j) (pos 0))
  where
    by : (t : Bool) → IsWithin (reduced_cost_size * MAX_NUMBER)
        (cond t (reduced_cost q w j *ℤ component q.area.hi j) (reduced_cost q w j *ℤ component q.area.lo j))
    by true = within_product (reduced_within q w f g j) (within_entry f.upper_bounds j)
    by false = within_product (reduced_within q w f g j) (within_entry f.lower_bounds j)

rhs_part_within : (q : Problem) (w : Multipliers) → Fits q → AreMultipliers w → (m : ℕ) → m ≤ length q.rows
    → IsWithin (m * (2 ^ 50 * MAX_PROBLEM_RHS)) (sum_below m (λ i. component w.mult i *ℤ (linear_at q.rows i).rhs))
rhs_part_within q w f g m b =
    within_sum_below (2 ^ 50 * MAX_PROBLEM_RHS) m (λ i. component w.mult i *ℤ (linear_at q.rows i).rhs)
    (λ i c. within_product (mult_within w g i) (f.rhs i (omega arith)))

least_part_within : (q : Problem) (w : Multipliers) → Fits q → AreMultipliers w → (n : ℕ)
    → IsWithin (n * (reduced_cost_size * MAX_NUMBER)) (sum_below n (least_term q w))
least_part_within q w f g n =
    within_sum_below (reduced_cost_size * MAX_NUMBER) n (least_term q w) (λ j b. least_term_within q w f g j)

pub bound_sums_fit : BoundSumsFit
bound_sums_fit q w f g e =
    let few = f.few_rows in
    let few' = f.few_columns in
    record {
      rows_part = λ j m b. fits_from_within w128 (rows_part_within q w f g j m b) (omega arith);
      reduced = λ j. fits_from_within w128 (reduced_within q w f g j) (omega arith);
      low_product = λ j. fits_from_within w128
          (within_product (reduced_within q w f g j) (within_entry f.lower_bounds j)) (omega arith);
      high_product = λ j. fits_from_within w128
          (within_product (reduced_within q w f g j) (within_entry f.upper_bounds j)) (omega arith);
      least_part = λ n b. fits_from_within w128 (least_part_within q w f g n) (omega arith);
      rhs_part = λ m b. fits_from_within w128 (rhs_part_within q w f g m b) (omega arith);
      bound = fits_from_within w128
          (within_difference (least_part_within q w f g (length q.area.lo))
          (rhs_part_within q w f g (length q.rows) (omega arith))) (omega arith);
      target = λ u h.
          let less : IsWithin (2 ^ 63 + 1) (u -ℤ pos 1) =
          within_difference {n = 1} {b = pos 1} (within_from_fits w64 h) (record { magnitude = omega arith }) in (
            fits_from_within w128 less (omega arith),
            fits_from_within w128 (within_product (den_within w g) less) (omega arith),
          );
    }
