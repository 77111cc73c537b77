-- Numbers above the limit are all taken as the one next to it. Internal: what the reader computes with.
use Rattle.std.specs.Prelude.{ℕ, ◌+◌, ◌*◌, ◌^◌, ◌==◌, min, Bool, List, ◌++◌, length, Option}
use Rattle.std.specs.List.{list_all}
use Rattle.std.specs.Str.Parse.{digits_value}
use Rattle.bl_limits.specs.declared.TheConstants.{MAX_WHOLE}
use Rattle.bl_num.specs.Numbers.{exact_quotient}

abbrev pub capped : ℕ → ℕ
capped number = min number (MAX_WHOLE + 1)

-- the number that these digits write, times ten to a power
unfoldable pub raised_magnitude : List ℕ → List ℕ → ℕ → Option ℕ
raised_magnitude whole fraction power =
    exact_quotient (digits_value 10 (whole ++ fraction) * 10 ^ power) (10 ^ length fraction)

-- and divided by ten to a power
unfoldable pub lowered_magnitude : List ℕ → List ℕ → ℕ → Option ℕ
lowered_magnitude whole fraction power =
    exact_quotient (digits_value 10 (whole ++ fraction)) (10 ^ (length fraction + power))

-- every byte is `0`
abbrev pub are_zeros : List ℕ → Bool
are_zeros digits = list_all (λ digit. digit == 48) digits
