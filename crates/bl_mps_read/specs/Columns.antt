-- The columns of a text, one line after the other.
use Rattle.std.specs.Prelude.{◌≡◌, ◌≤◌, All, ℕ, ◌+◌, ◌-◌, ◌==◌, ◌++◌, Bool, true, false, List, [], ◌∷◌, Option, Some}
use Rattle.std.specs.Prelude.{None, Result, Ok, Err, ℤ, pos, length, position, replicate, nat_lt, slice_index_or}
use Rattle.std.specs.Prelude.{slice_index, slice_set, codes, if◌then◌else◌}
use Rattle.std.specs.Option.{ok_or}
use Rattle.std.specs.Str.{bytes_eq}
use Rattle.bl_limits.specs.declared.TheConstants.{MAX_COLUMNS, MAX_NUMBER}
use Rattle.bl_raw.specs.Raw.{IsSmall}
use Rattle.bl_mps_terms.specs.declared.fault.MpsRule.{MpsRule}
use Rattle.bl_mps_terms.specs.declared.fault.MpsRule.TheVariants as rules
use Rattle.bl_mps_terms.specs.Words.{Bytes}
use Rattle.bl_mps_terms.specs.Lines.{is_marker}
use Rattle.bl_mps_read.specs.declared.bounds.Bounds.{Bounds}
use Rattle.bl_mps_read.specs.Bounds.{no_bounds, AreSmall}
use Rattle.bl_mps_read.specs.Fields.{pair_in, entry_in}
use Rattle.bl_mps_read.specs.Numbers.{pair_read}
use Rattle.bl_mps_read.specs.Rows.{RowList}
use Rattle.bl_mps_read.specs.Stops.{◌>>=◌, taken_up}

pub record ColumnList : Type 0 where
  pub names : List Bytes
  pub numbers : List (List ℤ)
  pub bounds : List Bounds
  pub marks : List ℕ
  pub inside : Bool

-- bounds for each name, and small numbers
pub record AreColumns (columns : ColumnList) : Type 0 where
  pub bounds : length columns.bounds ≡ length columns.names
  pub counts : length columns.numbers ≡ length columns.names
  pub room : length columns.names ≤ MAX_COLUMNS
  pub small : All (All IsSmall) columns.numbers
  pub small_bounds : All AreSmall columns.bounds

abbrev pub no_columns : ColumnList
no_columns = record { names = []; numbers = []; bounds = []; marks = []; inside = false }

-- the columns with room for this one's numbers: where it isn't there yet it begins at the end, and else it is the last
abbrev pub begun_at : Option ℕ → RowList → ColumnList → Bytes → Result ColumnList MpsRule
begun_at None rows columns name =
    if nat_lt (length columns.names) MAX_COLUMNS
    then Ok (record {
      names = columns.names ++ name ∷ [];
      numbers = columns.numbers ++ replicate (length rows.bounded + 1) (pos 0) ∷ [];
      bounds = columns.bounds ++ no_bounds columns.inside ∷ [];
      marks = columns.marks;
      inside = columns.inside;
    })
    else Err rules.TooMany
begun_at (Some place) rows columns name =
    if place + 1 == length columns.names then Ok columns else Err rules.DuplicateColumn

unfoldable pub begun : RowList → ColumnList → Bytes → Result ColumnList MpsRule
begun rows columns name = begun_at (position (bytes_eq name) columns.names) rows columns name

-- the marks with that of a column at a row, which has none of it yet
abbrev pub marked : List ℕ → ℕ → ℕ → Result (List ℕ) MpsRule
marked marks row column =
    if slice_index marks row == column then Err rules.DuplicateEntry else Ok (slice_set marks row column)

-- the numbers with this one at a slot of the last column
abbrev pub number_set : List (List ℤ) → Option ℕ → ℤ → List (List ℤ)
number_set numbers None number = numbers
number_set numbers (Some slot) number =
    slice_set numbers (length numbers - 1) (slice_set (slice_index_or numbers (length numbers - 1) []) slot number)

unfoldable pub coefficient_given : RowList → ColumnList → Bytes × Bytes → Result ColumnList MpsRule
coefficient_given rows columns pair = do
  read ← pair_read rows.names MAX_NUMBER pair
  marks ← marked columns.marks read.0 (length columns.names)
  Ok (record {
    names = columns.names;
    numbers = number_set columns.numbers (slice_index_or rows.slots read.0 None) read.1;
    bounds = columns.bounds;
    marks = marks;
    inside = columns.inside;
  })

-- whether the columns behind a marker line are integer
abbrev pub marker_word : Bytes → Result Bool MpsRule
marker_word word =
    if bytes_eq word (codes "'INTORG'") then Ok true else
    (if bytes_eq word (codes "'INTEND'") then Ok false else Err rules.BadFields)

abbrev pub marker_read : List Bytes → Result Bool MpsRule
marker_read [] = Err rules.BadFields
marker_read (name ∷ line) = ok_or (pair_in line) rules.BadFields >>= λ pair. marker_word pair.1

-- the columns with a line
unfoldable pub column_added : RowList → ColumnList → List Bytes → Result ColumnList MpsRule
column_added rows columns line =
    if is_marker line
    then (marker_read line >>= λ inside. Ok
    (record {
      names = columns.names;
      numbers = columns.numbers;
      bounds = columns.bounds;
      marks = columns.marks;
      inside = inside;
    }))
    else (ok_or (entry_in line) rules.BadFields >>= λ entry. begun rows columns entry.name >>= λ columns. taken_up
    (coefficient_given rows) columns entry.pairs)
