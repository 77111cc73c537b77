-- What a text says as a number: its parts, their value, and what is read. Trusted.
use Rattle.std.specs.Prelude.{ℕ, ◌+◌, ◌*◌, ◌/◌, ◌%◌, ◌^◌, ℤ, pos, neg_ℤ, Bool, ◌&&◌, ◌||◌, ◌==◌, nat_lt, nat_le, List}
use Rattle.std.specs.Prelude.{[], ◌∷◌, ◌++◌, length, drop, position, Option, Some, None, Result, Ok, Err, if◌then◌else◌}
use Rattle.std.specs.Char.{is_ascii_digit}
use Rattle.std.specs.List.{list_all, before_first, after_first}
use Rattle.std.specs.Option.{option_map_or}
use Rattle.std.specs.Str.Parse.{digits_value, starts_with_minus, without_leading_sign}
use Rattle.bl_limits.specs.declared.TheConstants.{MAX_WHOLE}
use Rattle.bl_num.specs.declared.fault.NumFault.{NumFault}
use Rattle.bl_num.specs.declared.fault.NumFault.TheVariants.{NotNumber, NotWhole, TooLarge}

-- The parts of a number: its sign, the digits before its point and behind it, and its exponent with its own sign.
pub record Parts : Type 0 where
  pub negative : Bool
  pub whole : List ℕ
  pub fraction : List ℕ
  pub exponent : List ℕ

-- `e` or `E`
abbrev pub is_mark : ℕ → Bool
is_mark byte = byte == 101 || byte == 69

abbrev pub is_point : ℕ → Bool
is_point byte = byte == 46

-- what stands before the mark
abbrev pub mantissa_of : List ℕ → List ℕ
mantissa_of body = before_first is_mark body

-- what stands behind the mark, and `0` where there is none
abbrev pub exponent_of : List ℕ → List ℕ
exponent_of body = option_map_or (λ at. drop (at + 1) body) (position is_mark body) (48 ∷ [])

unfoldable pub parts_of : List ℕ → Parts
parts_of bytes = record {
  negative = starts_with_minus bytes;
  whole = before_first is_point (mantissa_of (without_leading_sign bytes));
  fraction = after_first is_point (mantissa_of (without_leading_sign bytes));
  exponent = exponent_of (without_leading_sign bytes);
}

abbrev pub are_digits : List ℕ → Bool
are_digits bytes = list_all is_ascii_digit bytes

abbrev pub is_numeral : List ℕ → Bool
is_numeral bytes = are_digits bytes && nat_lt 0 (length bytes)

-- at least one digit before the exponent, and at least one in it
unfoldable pub is_number : Parts → Bool
is_number parts = is_numeral (parts.whole ++ parts.fraction) && is_numeral (without_leading_sign parts.exponent)

-- the number without its sign, its point and its exponent
abbrev pub coefficient_of : Parts → ℕ
coefficient_of parts = digits_value 10 (parts.whole ++ parts.fraction)

-- the magnitude of the exponent
abbrev pub power_of : Parts → ℕ
power_of parts = digits_value 10 (without_leading_sign parts.exponent)

-- The magnitude is the coefficient times ten to the one power and divided by ten to the other.
abbrev pub raised_by : Parts → ℕ
raised_by parts = if starts_with_minus parts.exponent then 0 else power_of parts

abbrev pub lowered_by : Parts → ℕ
lowered_by parts = length parts.fraction + (if starts_with_minus parts.exponent then power_of parts else 0)

-- the quotient where the division leaves no rest
abbrev pub exact_quotient : ℕ → ℕ → Option ℕ
exact_quotient over under = if over % under == 0 then Some (over / under) else None

-- the magnitude, where it is whole
unfoldable pub magnitude_of : Parts → Option ℕ
magnitude_of parts = exact_quotient (coefficient_of parts * 10 ^ raised_by parts) (10 ^ lowered_by parts)

abbrev pub signed : Bool → ℕ → ℤ
signed negative magnitude = if negative then neg_ℤ (pos magnitude) else pos magnitude

-- the number with this sign and magnitude, where it is within the limit
abbrev pub limited : Bool → Option ℕ → Result ℤ NumFault
limited negative None = Err NotWhole
limited negative (Some magnitude) =
    if nat_le magnitude MAX_WHOLE then Ok (signed negative magnitude) else Err (TooLarge negative)

-- what is read of a text
unfoldable pub read_of : List ℕ → Result ℤ NumFault
read_of bytes =
    if is_number (parts_of bytes)
    then limited (starts_with_minus bytes) (magnitude_of (parts_of bytes))
    else Err NotNumber
