-- The right-hand sides and ranges, one line after the other.
use Rattle.std.specs.Prelude.{ℕ, Bool, false, not, ◌&&◌, ◌==◌, List, Option, Result, Ok, Err, ℤ, if◌then◌else◌}
use Rattle.std.specs.Option.{ok_or, option_map_or}
use Rattle.bl_limits.specs.declared.TheConstants.{MAX_TEXT_RHS}
use Rattle.bl_mps_terms.specs.declared.fault.MpsRule.{MpsRule}
use Rattle.bl_mps_terms.specs.declared.fault.MpsRule.TheVariants as rules
use Rattle.bl_mps_terms.specs.Words.{Bytes}
use Rattle.bl_mps_terms.specs.Rules.{is_zero}
use Rattle.bl_mps_read.specs.Fields.{set_pairs_in}
use Rattle.bl_mps_read.specs.Numbers.{pair_read, entered}
use Rattle.bl_mps_read.specs.Rows.{RowList}
use Rattle.bl_mps_read.specs.Stops.{◌>>=◌, taken_up}

unfoldable pub range_given : RowList → List (Option ℤ) → Bytes × Bytes → Result (List (Option ℤ)) MpsRule
range_given rows ranges pair = do
  read ← pair_read rows.names MAX_TEXT_RHS pair
  entered ranges read.0 read.1

-- the first N row takes no number but 0
abbrev pub is_constant : Option ℕ → ℕ → ℤ → Bool
is_constant objective row number = not (is_zero number) && option_map_or (λ place. place == row) objective false

unfoldable pub right_side_given : RowList → List (Option ℤ) → Bytes × Bytes → Result (List (Option ℤ)) MpsRule
right_side_given rows sides pair = do
  read ← pair_read rows.names MAX_TEXT_RHS pair
  sides ← entered sides read.0 read.1
  if is_constant rows.objective read.0 read.1 then Err rules.ObjectiveConstant else Ok sides

unfoldable pub ranges_added : RowList → List (Option ℤ) → List Bytes → Result (List (Option ℤ)) MpsRule
ranges_added rows ranges line = do
  pairs ← ok_or (set_pairs_in line) rules.BadFields
  taken_up (range_given rows) ranges pairs

unfoldable pub right_sides_added : RowList → List (Option ℤ) → List Bytes → Result (List (Option ℤ)) MpsRule
right_sides_added rows sides line = do
  pairs ← ok_or (set_pairs_in line) rules.BadFields
  taken_up (right_side_given rows) sides pairs
