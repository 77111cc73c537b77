-- The parts of a number, their digits and their value.
use Rattle.std.proofs.Common.{◌≡◌, ℕ, ◌+◌, ◌*◌, ◌^◌, ◌<◌, Bool, true, false, leb, ltb, List, [], ◌∷◌, ◌++◌, length}
use Rattle.std.proofs.Common.{drop, Option, Some, None, refl, ap, arith, inl, inr}
use Rattle.std.specs.Char.{is_ascii_digit}
use Rattle.std.specs.Option.{option_map}
use Rattle.std.specs.Str.Parse.{AllDigits, digits_value, starts_with_minus, without_leading_sign, without_leading_plus}
use Rattle.std.proofs.lemmas.Bool.{cases_lt}
use Rattle.std.proofs.lemmas.Bool.Decides.{nat_tests}
use Rattle.bl_limits.specs.declared.TheConstants.{MAX_WHOLE}
use Rattle.bl_text.proofs.Digits.{AllDigits-from_test, and_true}
use Rattle.bl_num.specs.Numbers.{Parts, are_digits, is_numeral, is_number, power_of, magnitude_of, exact_quotient}
use Rattle.bl_num.specs.Numbers.{coefficient_of, limited}
use Rattle.bl_num.specs.Capped.{capped, raised_magnitude, lowered_magnitude}

-- the parts have digits where a number has them
pub record HasDigits (parts : Parts) : Type 0 where
  pub whole_digits : AllDigits 10 parts.whole
  pub fraction_digits : AllDigits 10 parts.fraction
  pub power_digits : AllDigits 10 (without_leading_sign parts.exponent)

digits-append : (front back : List ℕ) → are_digits (front ++ back) ≡ true
    → (are_digits front ≡ true) × (are_digits back ≡ true)
digits-append [] back h = (refl, h)
digits-append (d ∷ ds) back h =
    let both = and_true (is_ascii_digit d) (are_digits (ds ++ back)) h in
    let rest = digits-append ds back both.1 in
    (rw (both.0) rest.0, rest.1)

pub has_digits : (parts : Parts) → is_number parts ≡ true → HasDigits parts
unfolding is_number
has_digits parts h =
    let both = and_true (is_numeral (parts.whole ++ parts.fraction))
    (is_numeral (without_leading_sign parts.exponent)) h in
    let front = and_true (are_digits (parts.whole ++ parts.fraction))
    (ltb 0 (length (parts.whole ++ parts.fraction))) both.0 in
    let power = and_true (are_digits (without_leading_sign parts.exponent))
    (ltb 0 (length (without_leading_sign parts.exponent))) both.1 in
    let each = digits-append parts.whole parts.fraction front.0 in
    record {
      whole_digits = AllDigits-from_test parts.whole each.0;
      fraction_digits = AllDigits-from_test parts.fraction each.1;
      power_digits = AllDigits-from_test (without_leading_sign parts.exponent) power.0;
    }

times_one : (n : ℕ) → n ≡ n * 10 ^ 0
times_one n = omega arith

plus_none : (n : ℕ) → n ≡ n + 0
plus_none n = omega arith

pub magnitude-lowered : (parts : Parts) → starts_with_minus parts.exponent ≡ true
    → lowered_magnitude parts.whole parts.fraction (power_of parts) ≡ magnitude_of parts
unfolding magnitude_of lowered_magnitude
magnitude-lowered parts e =
    rw e (ap (λ (n : ℕ). exact_quotient n (10 ^ (length parts.fraction + digits_value 10 (drop 1 parts.exponent))))
    (times_one (coefficient_of parts)))

pub magnitude-raised : (parts : Parts) → starts_with_minus parts.exponent ≡ false
    → raised_magnitude parts.whole parts.fraction (power_of parts) ≡ magnitude_of parts
unfolding magnitude_of raised_magnitude
magnitude-raised parts e =
    rw e (ap (λ (k : ℕ). exact_quotient
    (coefficient_of parts * 10 ^ digits_value 10 (without_leading_plus parts.exponent)) (10 ^ k))
    (plus_none (length parts.fraction)))

pub nat_le_false : (n : ℕ) → MAX_WHOLE < n → leb n MAX_WHOLE ≡ false
nat_le_false n h = grind (arith, nat_tests)

limited-some : (negative : Bool) (number : ℕ) → limited negative (Some (capped number)) ≡ limited negative (Some number)
limited-some negative number =
    elim (cases_lt MAX_WHOLE number) [
      | inl above ↦
          let cut = nat_le_false (capped number) (omega arith) in
          let all = nat_le_false number above in
          rw (cut, all) refl
      | inr within ↦ ap (λ (n : ℕ). limited negative (Some n)) (omega arith)
    ]

-- the limit is told apart behind the cut too
pub limited-capped : (negative : Bool) (magnitude : Option ℕ)
    → limited negative (option_map capped magnitude) ≡ limited negative magnitude
limited-capped negative None = refl
limited-capped negative (Some number) = limited-some negative number
