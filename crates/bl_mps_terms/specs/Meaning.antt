-- What an MPS text says: names are looked up among whole lines. Trusted.
use Rattle.std.specs.Prelude.{◌≡◌, ℕ, Bool, false, not, List, [], ◌∷◌, Option, Some, None, ℤ, pos, negsuc, ◌+ℤ◌, ◌-ℤ◌}
use Rattle.std.specs.Prelude.{unwrap_or, map, filter, if◌then◌else◌}
use Rattle.std.specs.Option.{option_map}
use Rattle.std.specs.List.{flat_map, list_any, enumerate_from, AllZip}
use Rattle.std.specs.Str.{bytes_eq}
use Rattle.bl_raw.specs.declared.raw.RawRow.{RawRow}
use Rattle.bl_raw.specs.declared.raw.RawColumn.{RawColumn}
use Rattle.bl_raw.specs.declared.raw.RawMps.{RawMps}
use Rattle.bl_text.specs.Lines.{lines_of}
use Rattle.bl_mps_terms.specs.declared.words.RowKind.{RowKind}
use Rattle.bl_mps_terms.specs.declared.words.RowKind.TheVariants as rows
use Rattle.bl_mps_terms.specs.declared.words.Section.TheVariants.{Rows, Columns, RightSides, Ranges, Bounds}
use Rattle.bl_mps_terms.specs.Words.{Bytes, row_kind, maximises}
use Rattle.bl_mps_terms.specs.Parts.{field, under, senses_of, lines_read}
use Rattle.bl_mps_terms.specs.Rules.{is_zero, number}
use Rattle.bl_mps_terms.specs.Lines.{row_names, objective_of, bounded_rows, columns_of, pairs_on, pairs_of_set}
use Rattle.bl_mps_terms.specs.Lines.{bounds_on, lower_of, upper_of}
use Rattle.bl_mps_terms.specs.Faults.{first_fault}

-- ---- rows

-- the number after a name
unfoldable pub number_after : Bytes → List (Bytes × Bytes) → Option ℤ
number_after name [] = None
number_after name (pair ∷ pairs) = if bytes_eq name pair.0 then Some (number pair.1) else number_after name pairs

-- the lower side of a row of this kind with a right-hand side and perhaps a range
abbrev pub lhs_of : RowKind → ℤ → Option ℤ → Option ℤ
lhs_of rows.Free rhs range = None
lhs_of rows.AtMost rhs None = None
lhs_of rows.AtMost rhs (Some (pos range)) = Some (rhs -ℤ pos range)
lhs_of rows.AtMost rhs (Some (negsuc range)) = Some (rhs +ℤ negsuc range)
lhs_of rows.AtLeast rhs range = Some rhs
lhs_of rows.Equal rhs None = Some rhs
lhs_of rows.Equal rhs (Some (pos range)) = Some rhs
lhs_of rows.Equal rhs (Some (negsuc range)) = Some (rhs +ℤ negsuc range)

-- the upper side
abbrev pub rhs_of : RowKind → ℤ → Option ℤ → Option ℤ
rhs_of rows.Free rhs range = None
rhs_of rows.AtMost rhs range = Some rhs
rhs_of rows.AtLeast rhs None = None
rhs_of rows.AtLeast rhs (Some (pos range)) = Some (rhs +ℤ pos range)
rhs_of rows.AtLeast rhs (Some (negsuc range)) = Some (rhs -ℤ negsuc range)
rhs_of rows.Equal rhs None = Some rhs
rhs_of rows.Equal rhs (Some (pos range)) = Some (rhs +ℤ pos range)
rhs_of rows.Equal rhs (Some (negsuc range)) = Some rhs

abbrev pub kind_of_row : List Bytes → RowKind
kind_of_row line = unwrap_or (row_kind (field 0 line)) rows.Free

-- a row with a right-hand side and perhaps a range
abbrev pub row_with : Bytes → RowKind → Option ℤ → Option ℤ → RawRow
row_with name kind rhs range =
    record {
      name = name;
      lo = lhs_of kind (unwrap_or rhs (pos 0)) range;
      hi =
          rhs_of kind (unwrap_or rhs (pos 0)) range;
    }

-- the row of a line under ROWS, with these pairs under RHS and RANGES
abbrev pub row_of : List (Bytes × Bytes) → List (Bytes × Bytes) → List Bytes → RawRow
row_of right_sides ranges line =
    row_with (field 1 line) (kind_of_row line) (number_after (field 1 line) right_sides)
    (number_after (field 1 line) ranges)

-- ---- columns

-- the number of a row among the pairs of a column, 0 where it has none
abbrev pub coefficient : List (Bytes × Bytes) → Bytes → ℤ
coefficient pairs row = unwrap_or (number_after row pairs) (pos 0)

-- the nonzero numbers beside their places
abbrev pub nonzero_of : List ℤ → List (ℕ × ℤ)
nonzero_of numbers = filter (λ entry. not (is_zero entry.1)) (enumerate_from 0 numbers)

-- the column of this name; both of its sides are bounded
pub record IsColumnOf (default : ℤ) (lines : List Bytes) (name : Bytes) (column : RawColumn) : Type 0 where
  pub named : column.name ≡ name
  pub lower : Some column.lo ≡ lower_of (bounds_on name (under Bounds lines))
  pub upper : Some column.hi ≡ upper_of default (bounds_on name (under Bounds lines))
  pub cost : Some column.cost
      ≡ option_map (coefficient (pairs_on name (under Columns lines))) (objective_of (under Rows lines))
  pub entries : column.entries
      ≡ nonzero_of (map (coefficient (pairs_on name (under Columns lines)))
      (row_names (bounded_rows (under Rows lines))))

-- ---- the whole text

-- the word asks for a maximum
abbrev pub is_maximum : Bytes → Bool
is_maximum word = unwrap_or (maximises word) false

-- What these lines say, with a default upper bound.
pub record Says (default : ℤ) (lines : List Bytes) (mps : RawMps) : Type 0 where
  pub sense : mps.maximise ≡ list_any is_maximum (senses_of lines)
  pub objective : Some mps.objective ≡ objective_of (under Rows lines)
  pub rows : mps.rows ≡ map
      (row_of (flat_map pairs_of_set (under RightSides lines)) (flat_map pairs_of_set (under Ranges lines)))
      (bounded_rows (under Rows lines))
  pub columns : AllZip (IsColumnOf default lines) (columns_of (under Columns lines)) mps.columns

-- The text has no fault, and says this.
pub record Reads (default : ℤ) (text : List ℕ) (mps : RawMps) : Type 0 where
  pub faultless : first_fault default text ≡ None
  pub says : Says default (lines_read (lines_of text)) mps
