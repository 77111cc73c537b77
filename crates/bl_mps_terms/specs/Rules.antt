-- The first of several faults, and the faults of numbers and of pairs of a name and a number. Trusted.
use Rattle.std.specs.Prelude.{ℕ, Bool, true, false, not, ◌&&◌, List, [], ◌∷◌, ◌++◌, Option, Some, None, Result, Ok, Err}
use Rattle.std.specs.Prelude.{ℤ, pos, negsuc, zero, suc, unsigned_abs, nat_le, if◌then◌else◌}
use Rattle.std.specs.Option.{option_map_or}
use Rattle.std.specs.Result.{result_unwrap_or}
use Rattle.std.specs.List.{list_any}
use Rattle.std.specs.Str.{bytes_eq}
use Rattle.bl_num.specs.Numbers.{read_of}
use Rattle.bl_num.specs.declared.fault.NumFault.{NumFault}
use Rattle.bl_num.specs.declared.fault.NumFault.TheVariants.{NotNumber, NotWhole, TooLarge}
use Rattle.bl_mps_terms.specs.declared.fault.MpsRule.{MpsRule}
use Rattle.bl_mps_terms.specs.declared.fault.MpsRule.TheVariants as rules
use Rattle.bl_mps_terms.specs.Words.{Bytes}

-- the first that there is
abbrev pub first_of : List (Option MpsRule) → Option MpsRule
first_of [] = None
first_of (None ∷ faults) = first_of faults
first_of (Some rule ∷ faults) = Some rule

-- the rule is broken where the test holds
abbrev pub when : Bool → MpsRule → Option MpsRule
when test rule = if test then Some rule else None

abbrev pub unless : Bool → MpsRule → Option MpsRule
unless test rule = if test then None else Some rule

-- whether a name is among these
abbrev pub is_named : List Bytes → Bytes → Bool
is_named names name = list_any (bytes_eq name) names

-- ---- numbers

abbrev pub rule_of : NumFault → MpsRule
rule_of NotNumber = rules.BadNumber
rule_of NotWhole = rules.NotWhole
rule_of (TooLarge negative) = rules.TooLarge

-- what is read of a number of at most this magnitude
abbrev pub within : ℕ → Result ℤ NumFault → Result ℤ MpsRule
within most (Ok z) = if nat_le (unsigned_abs z) most then Ok z else Err rules.TooLarge
within most (Err fault) = Err (rule_of fault)

abbrev pub number_within : ℕ → Bytes → Result ℤ MpsRule
number_within most text = within most (read_of text)

abbrev pub fault_in : {A : Type 0} → Result A MpsRule → Option MpsRule
fault_in (Ok x) = None
fault_in (Err rule) = Some rule

abbrev pub number_fault : ℕ → Bytes → Option MpsRule
number_fault most text = fault_in (number_within most text)

-- the number that a field writes, where it writes one
unfoldable pub number : Bytes → ℤ
number text = result_unwrap_or (read_of text) (pos 0)

abbrev pub is_zero : ℤ → Bool
is_zero (pos zero) = true
is_zero (pos (suc n)) = false
is_zero (negsuc n) = false

-- ---- pairs of a row's name and a number

-- fields two by two
abbrev pub pairs_from : List Bytes → List (Bytes × Bytes)
pairs_from [] = []
pairs_from (a ∷ []) = []
pairs_from (a ∷ b ∷ more) = (a, b) ∷ pairs_from more

-- the row may have no number but 0
abbrev pub has_constant : Option Bytes → Bytes × Bytes → Bool
has_constant objective pair = option_map_or (bytes_eq pair.0) objective false && not (is_zero (number pair.1))

-- The faults of a pair, where these names are rows, the number is at most so large, and these rows have a number
-- already.
abbrev pub pair_fault : List Bytes → ℕ → Option Bytes → List Bytes → Bytes × Bytes → Option MpsRule
pair_fault rows most objective given pair = first_of (
    unless (is_named rows pair.0) rules.UnknownRow ∷ number_fault most pair.1
    ∷ when (is_named given pair.0) rules.DuplicateEntry ∷ when (has_constant objective pair) rules.ObjectiveConstant
    ∷ [])

unfoldable pub pairs_fault : List Bytes → ℕ → Option Bytes → List Bytes → List (Bytes × Bytes) → Option MpsRule
pairs_fault rows most objective given [] = None
pairs_fault rows most objective given (pair ∷ pairs) = first_of (
    pair_fault rows most objective given pair ∷ pairs_fault rows most objective (given ++ pair.0 ∷ []) pairs ∷ [])
