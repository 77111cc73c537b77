-- The lines of a text, one after the other.
use Rattle.std.specs.Prelude.{◌≡◌, ℕ, ◌+◌, ◌++◌, Bool, List, [], ◌∷◌, Option, Some, None, Result, Ok, Err, ℤ, length}
use Rattle.std.specs.Prelude.{is_some, if◌then◌else◌}
use Rattle.std.specs.Option.{ok_or}
use Rattle.bl_limits.specs.declared.TheConstants.{MAX_TEXT_RHS}
use Rattle.bl_text.specs.Fields.{fields_of}
use Rattle.bl_mps_terms.specs.declared.fault.MpsRule.{MpsRule}
use Rattle.bl_mps_terms.specs.declared.fault.MpsRule.TheVariants as rules
use Rattle.bl_mps_terms.specs.declared.fault.MpsFault.{MpsFault}
use Rattle.bl_mps_terms.specs.declared.words.Section.{Section}
use Rattle.bl_mps_terms.specs.declared.words.Section.TheVariants.{Name, ObjSense, Rows, Columns, RightSides, Ranges}
use Rattle.bl_mps_terms.specs.declared.words.Section.TheVariants.{Bounds, End}
use Rattle.bl_mps_terms.specs.Words.{Bytes, section_named, maximises}
use Rattle.bl_mps_terms.specs.Parts.{is_skipped, begins_section, is_in}
use Rattle.bl_mps_terms.specs.Faults.{at_line}
use Rattle.bl_mps_read.specs.declared.sections.Sections.{Sections}
use Rattle.bl_mps_read.specs.Bounds.{bound_added}
use Rattle.bl_mps_read.specs.Columns.{ColumnList, AreColumns, no_columns, column_added}
use Rattle.bl_mps_read.specs.Fields.{only_in}
use Rattle.bl_mps_read.specs.Numbers.{AreWithin}
use Rattle.bl_mps_read.specs.Rows.{RowList, AreRows, no_rows, row_added}
use Rattle.bl_mps_read.specs.Sections.{no_sections, next_may_be, with_section}
use Rattle.bl_mps_read.specs.Sides.{ranges_added, right_sides_added}
use Rattle.bl_mps_read.specs.Stops.{◌>>=◌}

pub record State : Type 0 where
  pub sections : Sections
  pub sense : Option Bool
  pub rows : RowList
  pub columns : ColumnList
  pub right_sides : List (Option ℤ)
  pub ranges : List (Option ℤ)

abbrev pub no_state : State
no_state = record {
  sections = no_sections;
  sense = None;
  rows = no_rows;
  columns = no_columns;
  right_sides = [];
  ranges = [];
}

-- there is a place for each row and for each column, and the numbers are within their limits
pub record IsTidy (state : State) : Type 0 where
  pub rows : AreRows state.rows
  pub columns : AreColumns state.columns
  pub marks : length state.columns.marks ≡ length state.rows.names
  pub right_sides : length state.right_sides ≡ length state.rows.names
  pub ranges : length state.ranges ≡ length state.rows.names
  pub small_right_sides : AreWithin MAX_TEXT_RHS state.right_sides
  pub small_ranges : AreWithin MAX_TEXT_RHS state.ranges

-- ---- section lines

-- the sense behind the name OBJSENSE
abbrev pub heading_sense : List Bytes → Result (Option Bool) MpsRule
heading_sense [] = Ok None
heading_sense (word ∷ more) = ok_or (maximises word) rules.BadObjSense >>= λ sense. Ok (Some sense)

abbrev pub sense_behind : Section → Option Bool → List Bytes → Result (Option Bool) MpsRule
sense_behind section sense rest = if is_in section (Some ObjSense) then heading_sense rest else Ok sense

unfoldable pub heading_read : State → List Bytes → Result State MpsRule
heading_read state [] = Err rules.BadSection
heading_read state (name ∷ rest) = ok_or (section_named name) rules.BadSection >>= λ section.
    if next_may_be state.sections section
    then (sense_behind section state.sense rest >>= λ sense. Ok (record {
      sections = with_section state.sections section;
      sense = sense;
      rows = state.rows;
      columns = state.columns;
      right_sides = state.right_sides;
      ranges = state.ranges;
    }))
    else Err rules.BadSection

-- ---- data lines

abbrev pub sense_read : Option Bool → List Bytes → Result (Option Bool) MpsRule
sense_read sense line = ok_or (only_in line) rules.BadFields >>= λ word.
    if is_some sense then Err rules.BadObjSense else
    (ok_or (maximises word) rules.BadObjSense >>= λ sense. Ok (Some sense))

abbrev pub with_mark : ColumnList → ColumnList
with_mark columns = record {
  names = columns.names;
  numbers = columns.numbers;
  bounds = columns.bounds;
  marks =
      columns.marks ++ 0 ∷ [];
  inside = columns.inside;
}

unfoldable pub row_read : State → List Bytes → Result State MpsRule
row_read state line = row_added state.rows line >>= λ rows. Ok (record {
  sections = state.sections;
  sense = state.sense;
  rows = rows;
  columns = with_mark state.columns;
  right_sides = state.right_sides ++ None ∷ [];
  ranges = state.ranges ++ None ∷ [];
})

abbrev pub with_sense : State → Option Bool → State
with_sense state sense =
    record {
      sections = state.sections;
      sense = sense;
      rows = state.rows;
      columns = state.columns;
      right_sides =
          state.right_sides;
      ranges = state.ranges;
    }

abbrev pub with_columns : State → ColumnList → State
with_columns state columns =
    record {
      sections = state.sections;
      sense = state.sense;
      rows = state.rows;
      columns = columns;
      right_sides =
          state.right_sides;
      ranges = state.ranges;
    }

abbrev pub with_right_sides : State → List (Option ℤ) → State
with_right_sides state sides =
    record {
      sections = state.sections;
      sense = state.sense;
      rows = state.rows;
      columns = state.columns;
      right_sides =
          sides;
      ranges = state.ranges;
    }

abbrev pub with_ranges : State → List (Option ℤ) → State
with_ranges state ranges =
    record {
      sections = state.sections;
      sense = state.sense;
      rows = state.rows;
      columns = state.columns;
      right_sides =
          state.right_sides;
      ranges = ranges;
    }

abbrev pub bounds_read : ColumnList → List Bytes → Result ColumnList MpsRule
bounds_read columns line = bound_added columns.names columns.bounds line >>= λ bounds.
    Ok (record {
      names = columns.names;
      numbers = columns.numbers;
      bounds = bounds;
      marks = columns.marks;
      inside =
          columns.inside;
    })

abbrev pub data_in : Option Section → State → List Bytes → Result State MpsRule
data_in (Some ObjSense) state line = sense_read state.sense line >>= λ sense. Ok (with_sense state sense)
data_in (Some Rows) state line = row_read state line
data_in (Some Columns) state line =
    column_added state.rows state.columns line >>= λ columns. Ok (with_columns state columns)
data_in (Some RightSides) state line =
    right_sides_added state.rows state.right_sides line >>= λ sides. Ok (with_right_sides state sides)
data_in (Some Ranges) state line = ranges_added state.rows state.ranges line >>= λ ranges. Ok (with_ranges state ranges)
data_in (Some Bounds) state line = bounds_read state.columns line >>= λ columns. Ok (with_columns state columns)
data_in (Some Name) state line = Err rules.BadSection
data_in (Some End) state line = Err rules.BadSection
data_in None state line = Err rules.BadSection

unfoldable pub data_read : State → List Bytes → Result State MpsRule
data_read state line = data_in state.sections.present state line

-- ---- lines

unfoldable pub line_read : State → Bytes → Result State MpsRule
line_read state line =
    if is_skipped line then Ok state
    else (if begins_section line then heading_read state (fields_of line) else data_read state (fields_of line))

-- what the lines behind the first ones leave, where these made the state
abbrev pub read_behind : ℕ → Result State MpsRule → (State → Result State MpsFault) → Result State MpsFault
read_behind number (Err rule) next = Err (at_line number rule)
read_behind number (Ok state) next = if is_in End state.sections.present then Ok state else next state

unfoldable pub text_read : ℕ → State → List Bytes → Result State MpsFault
text_read number state [] = Err (at_line (number + 1) rules.NoEnd)
text_read number state (line ∷ lines) =
    read_behind (number + 1) (line_read state line) (λ next. text_read (number + 1) next lines)
