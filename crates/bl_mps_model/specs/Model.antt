-- The model of the lines that were read.
use Rattle.std.specs.Prelude.{◌<◌, ℕ, ◌+◌, false, not, List, [], Option, Some, None, Result, Ok, Err, ℤ, pos, All}
use Rattle.std.specs.Prelude.{length, map, filter, unwrap_or, slice_index_or, nat_lt, if◌then◌else◌}
use Rattle.std.specs.List.{range_with_len}
use Rattle.std.specs.List.Sorted.{IsStrictlyIncreasing}
use Rattle.bl_limits.specs.declared.TheConstants.{MAX_TEXT_BYTES}
use Rattle.bl_raw.specs.declared.raw.RawRow.{RawRow}
use Rattle.bl_raw.specs.declared.raw.RawColumn.{RawColumn}
use Rattle.bl_raw.specs.declared.raw.RawMps.{RawMps}
use Rattle.bl_text.specs.Lines.{lines_of}
use Rattle.bl_mps_terms.specs.declared.fault.MpsRule.TheVariants as rules
use Rattle.bl_mps_terms.specs.declared.fault.MpsFault.{MpsFault}
use Rattle.bl_mps_terms.specs.Words.{Bytes}
use Rattle.bl_mps_terms.specs.Rules.{is_zero}
use Rattle.bl_mps_terms.specs.Faults.{at_line}
use Rattle.bl_mps_terms.specs.Meaning.{row_with}
use Rattle.bl_mps_read.specs.declared.rows.BoundedRow.{BoundedRow}
use Rattle.bl_mps_read.specs.declared.bounds.Bounds.{Bounds}
use Rattle.bl_mps_read.specs.Bounds.{no_bounds}
use Rattle.bl_mps_read.specs.Columns.{ColumnList}
use Rattle.bl_raw.specs.Raw.{IsSmall}
use Rattle.bl_mps_read.specs.Rows.{RowList}
use Rattle.bl_mps_read.specs.Reader.{State, no_state, text_read}
use Rattle.bl_mps_model.specs.Whole.{upper_in, bounds_faults}

abbrev pub raw_row : List Bytes → List (Option ℤ) → List (Option ℤ) → BoundedRow → RawRow
raw_row names right_sides ranges row =
    row_with (slice_index_or names row.place []) row.kind (slice_index_or right_sides row.place None)
    (slice_index_or ranges row.place None)

abbrev pub raw_rows : RowList → List (Option ℤ) → List (Option ℤ) → List RawRow
raw_rows rows right_sides ranges = map (raw_row rows.names right_sides ranges) rows.bounded

abbrev pub number_at : List ℤ → ℕ → ℤ
number_at numbers slot = slice_index_or numbers slot (pos 0)

-- the number of a row, whose slot is the next one
abbrev pub entry_at : List ℤ → ℕ → ℕ × ℤ
entry_at numbers row = (row, number_at numbers (row + 1))

abbrev pub raw_entries : List ℤ → ℕ → List (ℕ × ℤ)
raw_entries numbers rows = filter (λ entry. not (is_zero entry.1)) (map (entry_at numbers) (range_with_len 0 rows))

-- small coefficients at rising rows, each below this number of rows
pub record AreEntries (rows : ℕ) (entries : List (ℕ × ℤ)) : Type 0 where
  pub rising : IsStrictlyIncreasing (map (λ entry. entry.0) entries)
  pub within : All (λ entry. entry.0 < rows) entries
  pub small : All (λ entry. IsSmall entry.1) entries

abbrev pub raw_column : ℤ → ℕ → Bytes → List ℤ → Bounds → RawColumn
raw_column default rows name numbers bounds = record {
  name = name;
  lo = unwrap_or bounds.lower (pos 0);
  hi = unwrap_or (upper_in default bounds) (pos 0);
  cost = number_at numbers 0;
  entries = raw_entries numbers rows;
}

abbrev pub column_at : ℤ → ℕ → ColumnList → ℕ → RawColumn
column_at default rows columns place =
    raw_column default rows (slice_index_or columns.names place []) (slice_index_or columns.numbers place [])
    (slice_index_or columns.bounds place (no_bounds false))

abbrev pub raw_columns : ℤ → ℕ → ColumnList → List RawColumn
raw_columns default rows columns = map (column_at default rows columns) (range_with_len 0 (length columns.names))

-- the model, where the first N row stands at this place
abbrev pub model_of : ℤ → State → ℕ → RawMps
model_of default state objective = record {
  maximise = unwrap_or state.sense false;
  objective = slice_index_or state.rows.names objective [];
  rows = raw_rows state.rows state.right_sides state.ranges;
  columns = raw_columns default (length state.rows.bounded) state.columns;
}

abbrev pub model_at : ℤ → State → Option ℕ → Option MpsFault → Result RawMps MpsFault
model_at default state None fault = Err (at_line 0 rules.NoObjective)
model_at default state (Some objective) (Some fault) = Err fault
model_at default state (Some objective) None = Ok (model_of default state objective)

unfoldable pub model_read : ℤ → State → Result RawMps MpsFault
model_read default state = model_at default state state.rows.objective (bounds_faults default 0 state.columns.bounds)

abbrev pub model_behind : ℤ → Result State MpsFault → Result RawMps MpsFault
model_behind default (Err fault) = Err fault
model_behind default (Ok state) = model_read default state

unfoldable pub mps_read : ℤ → List ℕ → Result RawMps MpsFault
mps_read default text =
    if nat_lt MAX_TEXT_BYTES (length text) then Err (at_line 0 rules.TooLong)
    else model_behind default (text_read 0 no_state (lines_of text))
