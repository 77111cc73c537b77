-- What the data lines of each section say, and which rule such a line breaks, given the lines before it. Trusted.
use Rattle.std.specs.Prelude.{ℕ, ◌-◌, Bool, true, false, not, ◌&&◌, ◌||◌, ◌==◌, nat_lt, nat_le, List, [], ◌∷◌, ◌++◌}
use Rattle.std.specs.Prelude.{Option, Some, None, Result, Ok, Err, ℤ, pos, unsigned_abs, int_lt, unwrap_or, length, map}
use Rattle.std.specs.Prelude.{filter, fold, take, drop, codes, is_some, if◌then◌else◌}
use Rattle.std.specs.Option.{option_map_or}
use Rattle.std.specs.Result.{result_unwrap_or}
use Rattle.std.specs.List.{flat_map, list_any, filter_map}
use Rattle.std.specs.Str.{bytes_eq}
use Rattle.bl_limits.specs.declared.TheConstants.{MAX_COLUMNS, MAX_TEXT_ROWS, MAX_NUMBER, MAX_TEXT_RHS, NO_BOUND}
use Rattle.bl_num.specs.Numbers.{read_of}
use Rattle.bl_num.specs.declared.fault.NumFault.{NumFault}
use Rattle.bl_num.specs.declared.fault.NumFault.TheVariants.{NotNumber, NotWhole, TooLarge}
use Rattle.bl_mps_terms.specs.declared.fault.MpsRule.{MpsRule}
use Rattle.bl_mps_terms.specs.declared.fault.MpsRule.TheVariants as rules
use Rattle.bl_mps_terms.specs.declared.words.RowKind.{RowKind}
use Rattle.bl_mps_terms.specs.declared.words.RowKind.TheVariants as rows
use Rattle.bl_mps_terms.specs.declared.words.BoundKind.{BoundKind}
use Rattle.bl_mps_terms.specs.declared.words.BoundKind.TheVariants as bounds
use Rattle.bl_mps_terms.specs.Words.{Bytes, row_kind, bound_kind, maximises}
use Rattle.bl_mps_terms.specs.Parts.{field}
use Rattle.bl_mps_terms.specs.Rules.{first_of, when, unless, is_named, fault_in, pairs_from, pairs_fault}

-- ---- OBJSENSE: a word

-- the faults of a line, where these words were given before
abbrev pub sense_fault : List Bytes → List Bytes → Option MpsRule
sense_fault senses line = first_of (
    unless (length line == 1) rules.BadFields
    ∷ unless (length senses == 0 && is_some (maximises (field 0 line))) rules.BadObjSense ∷ [])

-- ---- ROWS: a kind and a name

abbrev pub is_free : RowKind → Bool
is_free rows.Free = true
is_free rows.AtMost = false
is_free rows.AtLeast = false
is_free rows.Equal = false

-- the line of an N row
abbrev pub is_free_row : List Bytes → Bool
is_free_row line = option_map_or is_free (row_kind (field 0 line)) false

abbrev pub row_names : List (List Bytes) → List Bytes
row_names lines = map (field 1) lines

-- the name of the first N row
abbrev pub objective_of : List (List Bytes) → Option Bytes
objective_of [] = None
objective_of (line ∷ lines) = if is_free_row line then Some (field 1 line) else objective_of lines

-- the lines of the rows that aren't N rows
abbrev pub bounded_rows : List (List Bytes) → List (List Bytes)
bounded_rows lines = filter (λ line. not (is_free_row line)) lines

-- the faults of a line, behind these lines of ROWS
abbrev pub row_fault : List (List Bytes) → List Bytes → Option MpsRule
row_fault before line = first_of (
    unless (length line == 2) rules.BadFields ∷ unless (is_some (row_kind (field 0 line))) rules.BadFields
    ∷ when (bytes_eq (field 1 line) (codes "'MARKER'")) rules.BadFields
    ∷ when (is_named (row_names before) (field 1 line)) rules.DuplicateRow
    ∷ unless (is_free_row line || nat_lt (length (bounded_rows before)) MAX_TEXT_ROWS) rules.TooMany ∷ [])

-- ---- COLUMNS: a column and one or two pairs, or a marker

abbrev pub is_marker : List Bytes → Bool
is_marker line = bytes_eq (field 1 line) (codes "'MARKER'")

-- a marker line behind which columns are integer
abbrev pub begins_integers : List Bytes → Bool
begins_integers line = bytes_eq (field 2 line) (codes "'INTORG'")

abbrev pub marker_fault : List Bytes → Option MpsRule
marker_fault line = first_of (
    unless (length line == 3) rules.BadFields
    ∷ unless (begins_integers line || bytes_eq (field 2 line) (codes "'INTEND'")) rules.BadFields ∷ [])

-- the names with this one at their end, where it isn't there yet
abbrev pub appended : List Bytes → Bytes → List Bytes
appended names name = if is_named names name then names else names ++ name ∷ []

-- the lines that aren't marker lines
abbrev pub column_lines : List (List Bytes) → List (List Bytes)
column_lines lines = filter (λ line. not (is_marker line)) lines

-- the names of the columns in order of first appearance
abbrev pub columns_of : List (List Bytes) → List Bytes
columns_of lines = fold appended [] (map (field 0) (column_lines lines))

-- the pairs on the lines of one column
abbrev pub pairs_on : Bytes → List (List Bytes) → List (Bytes × Bytes)
pairs_on column lines =
    flat_map (λ line. pairs_from (drop 1 line)) (filter (λ line. bytes_eq column (field 0 line)) (column_lines lines))

-- Behind these columns this one may not stand: it ended before the last began, or there is no room for it.
abbrev pub name_fault : List Bytes → Bytes → Option MpsRule
name_fault columns name = first_of (
    when (is_named (take (length columns - 1) columns) name) rules.DuplicateColumn
    ∷ unless (is_named columns name || nat_lt (length columns) MAX_COLUMNS) rules.TooMany ∷ [])

abbrev pub names_in : List (Bytes × Bytes) → List Bytes
names_in pairs = map (λ pair. pair.0) pairs

-- the faults of a line, where these lines stand under ROWS and these before it under COLUMNS
abbrev pub column_fault : List (List Bytes) → List (List Bytes) → List Bytes → Option MpsRule
column_fault rows before line =
    if is_marker line then marker_fault line
    else first_of (
    unless (length line == 3 || length line == 5) rules.BadFields ∷ name_fault (columns_of before) (field 0 line)
    ∷ pairs_fault (row_names rows) MAX_NUMBER None (names_in (pairs_on (field 0 line) before))
    (pairs_from (drop 1 line)) ∷ [])

-- whether a column is integer by the marker lines before its first line
abbrev pub is_marked_from : Bytes → Bool → List (List Bytes) → Bool
is_marked_from column inside [] = false
is_marked_from column inside (line ∷ lines) =
    if is_marker line then is_marked_from column (begins_integers line) lines
    else (if bytes_eq column (field 0 line) then inside else is_marked_from column inside lines)

abbrev pub is_marked : Bytes → List (List Bytes) → Bool
is_marked column lines = is_marked_from column false lines

-- ---- RHS and RANGES: perhaps a set name, and one or two pairs

abbrev pub is_even : ℕ → Bool
is_even n = n == 2 || n == 4

abbrev pub pairs_of_set : List Bytes → List (Bytes × Bytes)
pairs_of_set line = pairs_from (if is_even (length line) then line else drop 1 line)

-- the faults of a line, where these lines stand under ROWS and these before it in its own section
abbrev pub set_fault : ℕ → Option Bytes → List (List Bytes) → List (List Bytes) → List Bytes → Option MpsRule
set_fault most objective rows before line = first_of (
    unless (is_even (length line) || (length line == 3 || length line == 5)) rules.BadFields
    ∷ pairs_fault (row_names rows) most objective (names_in (flat_map pairs_of_set before)) (pairs_of_set line) ∷ [])

abbrev pub right_side_fault : List (List Bytes) → List (List Bytes) → List Bytes → Option MpsRule
right_side_fault rows before line = set_fault MAX_TEXT_RHS (objective_of rows) rows before line

abbrev pub range_fault : List (List Bytes) → List (List Bytes) → List Bytes → Option MpsRule
range_fault rows before line = set_fault MAX_TEXT_RHS None rows before line

-- ---- BOUNDS: a kind, perhaps a set name, a column, and a number where the kind takes one

abbrev pub takes_number : BoundKind → Bool
takes_number bounds.Up = true
takes_number bounds.Lo = true
takes_number bounds.Fx = true
takes_number bounds.Ui = true
takes_number bounds.Li = true
takes_number bounds.Bv = false
takes_number bounds.Fr = false
takes_number bounds.Mi = false
takes_number bounds.Pl = false

-- the kind makes the column integer
abbrev pub makes_integer : BoundKind → Bool
makes_integer bounds.Up = false
makes_integer bounds.Lo = false
makes_integer bounds.Fx = false
makes_integer bounds.Ui = true
makes_integer bounds.Li = true
makes_integer bounds.Bv = true
makes_integer bounds.Fr = false
makes_integer bounds.Mi = false
makes_integer bounds.Pl = false

-- the kind sets the lower bound
abbrev pub sets_lower : BoundKind → Bool
sets_lower bounds.Up = false
sets_lower bounds.Lo = true
sets_lower bounds.Fx = true
sets_lower bounds.Ui = false
sets_lower bounds.Li = true
sets_lower bounds.Bv = true
sets_lower bounds.Fr = false
sets_lower bounds.Mi = false
sets_lower bounds.Pl = false

-- what a line of this kind and number does to the lower bound: nothing, or it sets it to a number or to none
abbrev pub lower_set : BoundKind → Option ℤ → Option (Option ℤ)
lower_set bounds.Up number = None
lower_set bounds.Lo number = Some number
lower_set bounds.Fx number = Some number
lower_set bounds.Ui number = None
lower_set bounds.Li number = Some number
lower_set bounds.Bv number = Some (Some (pos 0))
lower_set bounds.Fr number = Some None
lower_set bounds.Mi number = Some None
lower_set bounds.Pl number = None

-- what it does to the upper bound
abbrev pub upper_set : BoundKind → Option ℤ → Option (Option ℤ)
upper_set bounds.Up number = Some number
upper_set bounds.Lo number = None
upper_set bounds.Fx number = Some number
upper_set bounds.Ui number = Some number
upper_set bounds.Li number = None
upper_set bounds.Bv number = Some (Some (pos 1))
upper_set bounds.Fr number = Some None
upper_set bounds.Mi number = None
upper_set bounds.Pl number = Some None

-- a number from 10^20 on is no bound
abbrev pub bound_within : Result ℤ NumFault → Result (Option ℤ) MpsRule
bound_within (Ok z) =
    if nat_le NO_BOUND (unsigned_abs z) then Ok None
    else (if nat_le (unsigned_abs z) MAX_NUMBER then Ok (Some z) else Err rules.TooLarge)
bound_within (Err NotNumber) = Err rules.BadNumber
bound_within (Err NotWhole) = Err rules.NotWhole
bound_within (Err (TooLarge negative)) = Ok None

-- a line of bounds
pub record BoundLine : Type 0 where
  pub kind : BoundKind
  pub column : Bytes
  -- no text where the kind takes no number
  pub number : Option Bytes

-- the parts of a line of this kind behind its first field; none where it has a wrong number of fields
abbrev pub bound_behind : BoundKind → Bool → List Bytes → Option BoundLine
bound_behind kind true (column ∷ number ∷ []) = Some (record { kind = kind; column = column; number = Some number })
bound_behind kind true (set ∷ column ∷ number ∷ []) =
    Some (record { kind = kind; column = column; number = Some number })
bound_behind kind true fields = None
bound_behind kind false (column ∷ []) = Some (record { kind = kind; column = column; number = None })
bound_behind kind false (set ∷ column ∷ []) = Some (record { kind = kind; column = column; number = None })
bound_behind kind false (set ∷ column ∷ ignored ∷ []) = Some (record { kind = kind; column = column; number = None })
bound_behind kind false fields = None

abbrev pub bound_of_kind : Option BoundKind → List Bytes → Option BoundLine
bound_of_kind None fields = None
bound_of_kind (Some kind) fields = bound_behind kind (takes_number kind) fields

-- the parts of a line
abbrev pub bound_line : List Bytes → Option BoundLine
bound_line line = bound_of_kind (bound_kind (field 0 line)) (drop 1 line)

-- the bound that a line gives, where its kind takes a number
abbrev pub bound_read : Option Bytes → Result (Option ℤ) MpsRule
bound_read None = Ok None
bound_read (Some text) = bound_within (read_of text)

-- the faults of a line, where these are the columns
abbrev pub parts_fault : List Bytes → Option BoundLine → Option MpsRule
parts_fault columns None = Some rules.BadFields
parts_fault columns (Some bound) = first_of (
    unless (is_named columns bound.column) rules.UnknownColumn ∷ fault_in (bound_read bound.number) ∷ [])

abbrev pub bound_fault : List (List Bytes) → List Bytes → Option MpsRule
bound_fault columns line = parts_fault (columns_of columns) (bound_line line)

-- the lines of bounds on a column
abbrev pub bounds_on : Bytes → List (List Bytes) → List BoundLine
bounds_on column lines = filter (λ bound. bytes_eq column bound.column) (filter_map bound_line lines)

abbrev pub number_given : BoundLine → Option ℤ
number_given bound = result_unwrap_or (bound_read bound.number) None

-- the last that there is, or else the first given
abbrev pub last_set : {A : Type 0} → A → List (Option A) → A
last_set first [] = first
last_set first (set ∷ sets) = last_set (unwrap_or set first) sets

-- The last line that sets a side counts. A column that some line names has the lower bound 0 and no upper
-- bound where no line sets them.
abbrev pub lower_of : List BoundLine → Option ℤ
lower_of lines = last_set (Some (pos 0)) (map (λ bound. lower_set bound.kind (number_given bound)) lines)

-- One that no line names has the default upper bound.
abbrev pub upper_of : ℤ → List BoundLine → Option ℤ
upper_of default [] = Some default
upper_of default (bound ∷ lines) =
    last_set None (map (λ bound. upper_set bound.kind (number_given bound)) (bound ∷ lines))

-- ---- whole columns

abbrev pub is_above : Option ℤ → Option ℤ → Bool
is_above None upper = false
is_above (Some lower) None = false
is_above (Some lower) (Some upper) = int_lt upper lower

-- The faults of a column with these lines of bounds. An upper bound is negative only by `UP` or `UI`, where
-- no line sets the lower bound.
abbrev pub whole_fault : ℤ → Bool → List BoundLine → Option MpsRule
whole_fault default marked lines = first_of (
    unless (marked || list_any (λ bound. makes_integer bound.kind) lines) rules.Continuous
    ∷ unless (is_some (lower_of lines) && is_some (upper_of default lines)) rules.Unbounded
    ∷ when (is_above (Some (pos 0)) (upper_of default lines) && not (list_any (λ bound. sets_lower bound.kind) lines))
    rules.NegativeUpper
    ∷ when (is_above (lower_of lines) (upper_of default lines)) rules.EmptyBounds ∷ [])
