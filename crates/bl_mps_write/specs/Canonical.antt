-- Trusted. The canonical MPS text of a model.
use Rattle.std.specs.Prelude.{ℕ, Bool, List, [], ◌++◌, slice_index_or, map, ℤ, pos, ◌-ℤ◌, nat_le, unsigned_abs, Option}
use Rattle.std.specs.Prelude.{Some, None, codes, if◌then◌else◌}
use Rattle.std.specs.List.{flat_map}
use Rattle.std.specs.Fmt.{signed_decimal}
use Rattle.std.specs.Ordering.{int_eq}
use Rattle.bl_limits.specs.declared.TheConstants.{MAX_TEXT_RHS}
use Rattle.bl_mps_terms.specs.declared.words.RowKind.{RowKind}
use Rattle.bl_mps_terms.specs.declared.words.RowKind.TheVariants.{Free, AtMost, AtLeast, Equal}
use Rattle.bl_mps_write.specs.declared.form.RowForm.{RowForm}
use Rattle.bl_raw.specs.declared.raw.RawRow.{RawRow}
use Rattle.bl_raw.specs.declared.raw.RawColumn.{RawColumn}
use Rattle.bl_raw.specs.declared.raw.RawMps.{RawMps}

abbrev pub Bytes : Type 0
Bytes = List ℕ

-- ---- lines

-- a data line of two words
abbrev pub word_line : Bytes → Bytes → Bytes
word_line first second = codes " " ++ (first ++ (codes " " ++ (second ++ codes "\n")))

-- a data line of two words and a number
abbrev pub number_line : Bytes → Bytes → ℤ → Bytes
number_line first second number =
    codes " " ++ (first ++ (codes " " ++ (second ++ (codes " " ++ (signed_decimal number ++ codes "\n")))))

-- ---- rows

abbrev pub letter_of : RowKind → Bytes
letter_of Free = codes "N"
letter_of AtMost = codes "L"
letter_of AtLeast = codes "G"
letter_of Equal = codes "E"

-- A row with equal sides is E, one with one side L or G. With two sides it is G and has the left-hand side,
-- where that is small enough for a text, else L with the right-hand side
abbrev pub two_sided : ℤ → ℤ → RowForm
two_sided lo hi =
    if int_eq lo hi then record { kind = Equal; rhs = lo; range = None }
    else (if nat_le (unsigned_abs lo) MAX_TEXT_RHS then record { kind = AtLeast; rhs = lo; range = Some (hi -ℤ lo) }
    else record { kind = AtMost; rhs = hi; range = Some (hi -ℤ lo) })

abbrev pub form_of_sides : Option ℤ → Option ℤ → RowForm
form_of_sides None None = record { kind = Free; rhs = pos 0; range = None }
form_of_sides None (Some hi) = record { kind = AtMost; rhs = hi; range = None }
form_of_sides (Some lo) None = record { kind = AtLeast; rhs = lo; range = None }
form_of_sides (Some lo) (Some hi) = two_sided lo hi

-- how a row is written: its kind, its right-hand side and its range
abbrev pub form_of : RawRow → RowForm
form_of row = form_of_sides row.lo row.hi

-- ---- sections

-- the word for a leader who maximises
abbrev pub sense_lines : Bool → Bytes
sense_lines maximise = if maximise then codes "OBJSENSE\n MAX\n" else []

abbrev pub row_lines : List RawRow → Bytes
row_lines rows = flat_map (λ row. word_line (letter_of (form_of row).kind) row.name) rows

-- the name of row i
abbrev pub name_at : List RawRow → ℕ → Bytes
name_at rows i = slice_index_or (map (λ row. row.name) rows) i []

-- a line for each coefficient of the column of this name
abbrev pub coefficient_lines : List RawRow → Bytes → List (ℕ × ℤ) → Bytes
coefficient_lines rows name entries = flat_map (λ e. number_line name (name_at rows e.0) e.1) entries

-- a column's lines: its cost, also where that is 0, and its coefficients in rising order of rows
abbrev pub cost_and_coefficients : Bytes → List RawRow → RawColumn → Bytes
cost_and_coefficients objective rows column =
    number_line column.name objective column.cost ++ coefficient_lines rows column.name column.entries

abbrev pub column_lines : Bytes → List RawRow → List RawColumn → Bytes
column_lines objective rows columns = flat_map (cost_and_coefficients objective rows) columns

-- a right-hand side other than 0
abbrev pub nonzero_line : Bytes → ℤ → Bytes
nonzero_line name number = if int_eq number (pos 0) then [] else number_line (codes "RHS") name number

abbrev pub rhs_lines : List RawRow → Bytes
rhs_lines rows = flat_map (λ row. nonzero_line row.name (form_of row).rhs) rows

abbrev pub range_line : Bytes → Option ℤ → Bytes
range_line name None = []
range_line name (Some range) = number_line (codes "RANGE") name range

abbrev pub range_lines : List RawRow → Bytes
range_lines rows = flat_map (λ row. range_line row.name (form_of row).range) rows

-- both bounds of a column
abbrev pub both_bounds : RawColumn → Bytes
both_bounds column =
    number_line (codes "LO BND") column.name column.lo ++ number_line (codes "UP BND") column.name column.hi

abbrev pub bound_lines : List RawColumn → Bytes
bound_lines columns = flat_map both_bounds columns

-- ---- the text

unfoldable pub mps_text : RawMps → Bytes
mps_text mps =
    codes "NAME\n" ++ sense_lines mps.maximise
    ++ codes "ROWS\n" ++ word_line (codes "N") mps.objective ++ row_lines mps.rows
    ++ codes "COLUMNS\n MARKER 'MARKER' 'INTORG'\n" ++ column_lines mps.objective mps.rows mps.columns
    ++ codes " MARKER 'MARKER' 'INTEND'\nRHS\n" ++ rhs_lines mps.rows
    ++ codes "RANGES\n" ++ range_lines mps.rows
    ++ codes "BOUNDS\n" ++ bound_lines mps.columns
    ++ codes "ENDATA\n"
