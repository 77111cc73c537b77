-- Internal. What the fields of a line are read as, as functions of their bytes.
use Rattle.std.specs.Prelude.{ℕ, ◌^◌, ◌&&◌, Bool, ℤ, pos, negsuc, neg_ℤ, Option, Some, None}
use Rattle.std.specs.Prelude.{nat_lt, drop, ◌==◌, if◌then◌else◌}
use Rattle.std.specs.Option.{option_and_then}
use Rattle.std.specs.List.{before_first, after_first}
use Rattle.std.specs.Str.{bytes_eq}
use Rattle.std.specs.Str.Parse.{digits_value, starts_with_minus}
use Rattle.std.specs.Ordering.{int_eq}
use Rattle.std.specs.Fmt.{signed_decimal}
use Rattle.bl_certline.specs.Fields.{Bytes}

infixl 10 ◌>>=◌
abbrev pub ◌>>=◌ : {A B : Type 0} → Option A → (A → Option B) → Option B
o >>= f = option_and_then f o

-- what digits write behind an optional `-`
abbrev pub worth_of : Bytes → ℤ
worth_of field =
    if starts_with_minus field then neg_ℤ (pos (digits_value 10 (drop 1 field))) else pos (digits_value 10 field)

-- how far a number is from the nearer of 0 and -1
abbrev pub size_of : ℤ → ℕ
size_of (pos n) = n
size_of (negsuc n) = n

-- the number of 64 bits whose spelling the field is
unfoldable pub number_of : Bytes → Option ℤ
number_of field =
    if nat_lt (size_of (worth_of field)) (2 ^ 63) && bytes_eq (signed_decimal (worth_of field)) field
    then Some (worth_of field) else None

abbrev pub is_colon : ℕ → Bool
is_colon byte = byte == 58

-- an index with a number other than 0
abbrev pub nonzero_pair : ℤ → ℤ → Option (ℤ × ℤ)
nonzero_pair index number = if int_eq number (pos 0) then None else Some (index, number)

-- the pair whose spelling the field is
unfoldable pub pair_of : Bytes → Option (ℤ × ℤ)
pair_of field = do
  index ← number_of (before_first is_colon field)
  number ← number_of (after_first is_colon field)
  nonzero_pair index number
