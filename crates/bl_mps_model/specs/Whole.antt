-- The faults of the columns that were read.
use Rattle.std.specs.Prelude.{ℕ, ◌+◌, not, ◌&&◌, List, [], ◌∷◌, Option, Some, None, ℤ, pos, is_some, if◌then◌else◌}
use Rattle.std.specs.Option.{option_map}
use Rattle.bl_mps_terms.specs.declared.fault.MpsRule.{MpsRule}
use Rattle.bl_mps_terms.specs.declared.fault.MpsRule.TheVariants as rules
use Rattle.bl_mps_terms.specs.declared.fault.MpsFault.{MpsFault}
use Rattle.bl_mps_terms.specs.Faults.{or_else, in_column}
use Rattle.bl_mps_terms.specs.Lines.{is_above}
use Rattle.bl_mps_terms.specs.Rules.{first_of, when, unless}
use Rattle.bl_mps_read.specs.declared.bounds.Bounds.{Bounds}

-- the default upper bound where no line names the column
abbrev pub upper_in : ℤ → Bounds → Option ℤ
upper_in default bounds = if bounds.named then bounds.upper else Some default

abbrev pub bounds_fault : ℤ → Bounds → Option MpsRule
bounds_fault default bounds = first_of (
    unless bounds.integer rules.Continuous
    ∷ unless (is_some bounds.lower && is_some (upper_in default bounds)) rules.Unbounded
    ∷ when (is_above (Some (pos 0)) (upper_in default bounds) && not bounds.sets_lower) rules.NegativeUpper
    ∷ when (is_above bounds.lower (upper_in default bounds)) rules.EmptyBounds ∷ [])

-- the fault of the first column that has one, counted from `from`
unfoldable pub bounds_faults : ℤ → ℕ → List Bounds → Option MpsFault
bounds_faults default from [] = None
bounds_faults default from (bounds ∷ more) =
    or_else (option_map (in_column from) (bounds_fault default bounds)) (bounds_faults default (from + 1) more)
