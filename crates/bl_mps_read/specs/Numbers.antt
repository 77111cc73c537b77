-- Numbers beside the names of rows.
use Rattle.std.specs.Prelude.{◌≤◌, All, IfSome, unsigned_abs, ℕ, ℤ, List, Option, Some, None, Result, Ok, Err, is_some}
use Rattle.std.specs.Prelude.{slice_index_or, slice_set, position, if◌then◌else◌}
use Rattle.std.specs.Option.{ok_or}
use Rattle.std.specs.Str.{bytes_eq}
use Rattle.bl_num.specs.Numbers.{read_of}
use Rattle.bl_mps_terms.specs.declared.fault.MpsRule.{MpsRule}
use Rattle.bl_mps_terms.specs.declared.fault.MpsRule.TheVariants as rules
use Rattle.bl_mps_terms.specs.Words.{Bytes}
use Rattle.bl_mps_terms.specs.Rules.{number_within}
use Rattle.bl_mps_terms.specs.Lines.{bound_within}
use Rattle.bl_mps_read.specs.Stops.{◌>>=◌}

abbrev pub bound_option : Bytes → Result (Option ℤ) MpsRule
bound_option text = bound_within (read_of text)

-- the place of a pair's name and its number
abbrev pub pair_read : List Bytes → ℕ → Bytes × Bytes → Result (ℕ × ℤ) MpsRule
pair_read names most pair = do
  place ← ok_or (position (bytes_eq pair.0) names) rules.UnknownRow
  number ← number_within most pair.1
  Ok (place, number)

-- the numbers with one more at a place where none stood
abbrev pub entered : List (Option ℤ) → ℕ → ℤ → Result (List (Option ℤ)) MpsRule
entered numbers place number =
    if is_some (slice_index_or numbers place None) then Err rules.DuplicateEntry else Ok
    (slice_set numbers place (Some number))

-- each number is of at most this magnitude
abbrev pub AreWithin : ℕ → List (Option ℤ) → Type 0
AreWithin most numbers = All (λ number. IfSome number (λ z. unsigned_abs z ≤ most)) numbers
