-- What the digits read so far write, and how large that is.
use Rattle.std.proofs.Common.{◌≡◌, ℕ, zero, suc, ◌+◌, ◌-◌, ◌*◌, ◌^◌, ◌<◌, ◌≤◌, Bool, true, false, leb, List, [], ◌∷◌}
use Rattle.std.proofs.Common.{length, get_or, take, refl, arith, ◌&&◌}
use Rattle.std.specs.Char.{digit_value, is_ascii_digit}
use Rattle.std.specs.List.{list_all}
use Rattle.std.specs.Int.{IsInRange}
use Rattle.std.specs.Str.Parse.{AllDigits, digits_value}
use Rattle.std.proofs.lemmas.Str.Parse.{IsNumeralModel, numerals_by_value, tells_digits, digit_at, digits_value_short}
use Rattle.std.proofs.lemmas.Int.Digits.{digits_value_more}
use Rattle.std.proofs.lemmas.Bool.{lt-ltb, le-ltb, leb-true, le-leb}
use Rattle.std.proofs.lemmas.List.{length-take}

pub numerals : IsNumeralModel (AllDigits 10) (digits_value 10)
numerals = numerals_by_value (AllDigits 10) tells_digits

pub AllDigits-take : (n : ℕ) (digits : List ℕ) → AllDigits 10 digits → AllDigits 10 (take n digits)
AllDigits-take zero digits h = tt
AllDigits-take (suc n) [] h = tt
AllDigits-take (suc n) (d ∷ ds) h = (h.0, AllDigits-take n ds h.1)

digit_value-digit : (d : ℕ) → IsInRange 48 57 d → digit_value d ≡ d - 48
digit_value-digit d h = rw (le-ltb d 48 h.0, lt-ltb d 58 (omega arith)) refl

pub digits_value-lt_19 : (digits : List ℕ) → AllDigits 10 digits → length digits ≤ 19 → digits_value 10 digits < 10 ^ 19
digits_value-lt_19 digits h few = digits_value_short numerals digits 19 h few

pub record IsStep (digits : List ℕ) (i : ℕ) : Type 0 where
  pub is_digit : 48 ≤ get_or digits i 0
  pub value : digits_value 10 (take (i + 1) digits) ≡ 10 * digits_value 10 (take i digits) + (get_or digits i 0 - 48)
  pub small : digits_value 10 (take (i + 1) digits) < 10 ^ 19

pub digits_step : (digits : List ℕ) (i : ℕ) → AllDigits 10 digits → i < length digits → length digits ≤ 19
    → IsStep digits i
digits_step digits i h lt few =
    let range = digit_at digits i h lt in
    let more = digits_value_more 10 digits i lt in
    let digit = digit_value-digit (get_or digits i 0) range in
    record {
      is_digit = range.0;
      value = omega (arith, more, digit);
      small = digits_value-lt_19 (take (i + 1) digits) (AllDigits-take (i + 1) digits h)
          (omega (arith, length-take (i + 1) digits));
    }

pub and_true : (a b : Bool) → (a && b) ≡ true → (a ≡ true) × (b ≡ true)
and_true true b h = (refl, h)
and_true false b h = absurd cc

digit_range : (d : ℕ) → is_ascii_digit d ≡ true → IsInRange 48 57 d
digit_range d h = let both = and_true (leb 48 d) (leb d 57) h in (leb-true 48 d both.0, leb-true d 57 both.1)

pub digits_value-lt_16 : (digits : List ℕ) → AllDigits 10 digits → length digits ≤ 16 → digits_value 10 digits < 10 ^ 16
digits_value-lt_16 digits h few = digits_value_short numerals digits 16 h few

pub AllDigits-from_test : (digits : List ℕ) → list_all is_ascii_digit digits ≡ true → AllDigits 10 digits
AllDigits-from_test [] h = tt
AllDigits-from_test (d ∷ ds) h =
    let both = and_true (is_ascii_digit d) (list_all is_ascii_digit ds) h in
    let range : IsInRange 48 57 d = digit_range d both.0 in
    (omega (arith, digit_value-digit d range, range.1), AllDigits-from_test ds both.1)

pub test-from_AllDigits : (digits : List ℕ) → AllDigits 10 digits → list_all is_ascii_digit digits ≡ true
test-from_AllDigits [] h = refl
test-from_AllDigits (d ∷ ds) h = let range = digit_at (d ∷ ds) 0 h (omega arith) in
    rw (le-leb 48 d range.0, le-leb d 57 range.1) (test-from_AllDigits ds h.1)
