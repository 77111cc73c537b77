-- The spelling of whole numbers.
use Rattle.std.specs.Prelude.{ℕ, ℤ, pos, neg_ℤ, List, ◌&&◌, Option, Some, None, option_map, nat_lt, nat_le, length}
use Rattle.std.specs.Prelude.{drop, if◌then◌else◌}
use Rattle.std.specs.Char.{is_ascii_digit}
use Rattle.std.specs.List.{list_all}
use Rattle.std.specs.Str.Parse.{digits_value, starts_with_minus}

-- the number that one to `most` decimal digits write
abbrev pub numeral_up_to : ℕ → List ℕ → Option ℕ
numeral_up_to most digits =
    if list_all is_ascii_digit digits && (nat_lt 0 (length digits) && nat_le (length digits) most)
    then Some (digits_value 10 digits) else None

-- an optional `-`, and then one to sixteen digits
abbrev pub short_number : List ℕ → Option ℤ
short_number field =
    if starts_with_minus field
    then option_map (λ n. neg_ℤ (pos n)) (numeral_up_to 16 (drop 1 field))
    else option_map pos (numeral_up_to 16 field)
