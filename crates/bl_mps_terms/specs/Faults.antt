-- The first fault of an MPS text: the first line that breaks a rule, given the lines before it, and there the first
-- rule;
-- then the faults of the whole. Trusted.
use Rattle.std.specs.Prelude.{ℕ, ◌+◌, Bool, not, ◌&&◌, ◌||◌, ◌==◌, nat_lt, List, [], ◌∷◌, ◌++◌, Option, Some, None, ℤ}
use Rattle.std.specs.Prelude.{length, is_some, is_none, if◌then◌else◌}
use Rattle.std.specs.Option.{option_map}
use Rattle.bl_limits.specs.declared.TheConstants.{MAX_TEXT_BYTES}
use Rattle.bl_text.specs.Fields.{fields_of}
use Rattle.bl_text.specs.Lines.{lines_of}
use Rattle.bl_mps_terms.specs.declared.fault.MpsRule.{MpsRule}
use Rattle.bl_mps_terms.specs.declared.fault.MpsRule.TheVariants as rules
use Rattle.bl_mps_terms.specs.declared.fault.MpsFault.{MpsFault}
use Rattle.bl_mps_terms.specs.declared.words.Section.{Section}
use Rattle.bl_mps_terms.specs.declared.words.Section.TheVariants.{Name, ObjSense, Rows, Columns, RightSides, Ranges}
use Rattle.bl_mps_terms.specs.declared.words.Section.TheVariants.{Bounds, End}
use Rattle.bl_mps_terms.specs.Words.{Bytes, maximises, section_named}
use Rattle.bl_mps_terms.specs.Parts.{field, is_skipped, begins_section, section_after, sections_of, has, is_in, under}
use Rattle.bl_mps_terms.specs.Parts.{senses_of, is_end, lines_read}
use Rattle.bl_mps_terms.specs.Rules.{first_of, unless}
use Rattle.bl_mps_terms.specs.Lines.{objective_of, sense_fault, row_fault, columns_of, column_fault, is_marked}
use Rattle.bl_mps_terms.specs.Lines.{right_side_fault, range_fault, bound_fault, bounds_on, whole_fault}

-- ---- one line

-- NAME, OBJSENSE, ROWS and COLUMNS stand in this order, each once, and the first two may lack; then RHS,
-- RANGES and BOUNDS in any order, each at most once; then ENDATA.
abbrev pub may_begin : List Section → Section → Bool
may_begin before Name = length before == 0
may_begin before ObjSense = not (has ObjSense before) && not (has Rows before)
may_begin before Rows = not (has Rows before)
may_begin before Columns = has Rows before && not (has Columns before)
may_begin before RightSides = has Columns before && not (has RightSides before)
may_begin before Ranges = has Columns before && not (has Ranges before)
may_begin before Bounds = has Columns before && not (has Bounds before)
may_begin before End = has Columns before

-- a section line of OBJSENSE has no second field, or a word for the leader's sense there
abbrev pub has_good_sense : Section → List Bytes → Bool
has_good_sense section line =
    not (is_in ObjSense (Some section)) || (nat_lt (length line) 2 || is_some (maximises (field 1 line)))

abbrev pub section_fault : List Section → Option Section → List Bytes → Option MpsRule
section_fault before None line = Some rules.BadSection
section_fault before (Some section) line = first_of (
    unless (may_begin before section) rules.BadSection ∷ unless (has_good_sense section line) rules.BadObjSense ∷ [])

-- the faults of a section line, given the lines before it
abbrev pub heading_fault : List Bytes → List Bytes → Option MpsRule
heading_fault before line = section_fault (sections_of before) (section_named (field 0 line)) line

-- the faults of a data line in its section
abbrev pub data_fault : Option Section → List Bytes → List Bytes → Option MpsRule
data_fault (Some ObjSense) before line = sense_fault (senses_of before) line
data_fault (Some Rows) before line = row_fault (under Rows before) line
data_fault (Some Columns) before line = column_fault (under Rows before) (under Columns before) line
data_fault (Some RightSides) before line = right_side_fault (under Rows before) (under RightSides before) line
data_fault (Some Ranges) before line = range_fault (under Rows before) (under Ranges before) line
data_fault (Some Bounds) before line = bound_fault (under Columns before) line
data_fault (Some Name) before line = Some rules.BadSection
data_fault (Some End) before line = Some rules.BadSection
data_fault None before line = Some rules.BadSection

-- the first rule that a line breaks, given the lines before it
unfoldable pub line_fault : List Bytes → Bytes → Option MpsRule
line_fault before line =
    if is_skipped line then None
    else (if begins_section line then heading_fault before (fields_of line)
    else data_fault (section_after None before) before (fields_of line))

-- ---- all lines

abbrev pub at_line : ℕ → MpsRule → MpsFault
at_line line rule = record { rule = rule; line = line; column = 0 }

-- this fault, or else the one after it
abbrev pub or_else : Option MpsFault → Option MpsFault → Option MpsFault
or_else (Some fault) next = Some fault
or_else None next = next

-- The first line that breaks a rule, behind these lines. The text has to go on to ENDATA.
unfoldable pub lines_fault : List Bytes → List Bytes → Option MpsFault
lines_fault before [] = Some (at_line (length before + 1) rules.NoEnd)
lines_fault before (line ∷ lines) = or_else (option_map (at_line (length before + 1)) (line_fault before line))
    (if is_end line then None else lines_fault (before ++ line ∷ []) lines)

-- ---- the whole

abbrev pub in_column : ℕ → MpsRule → MpsFault
in_column column rule = record { rule = rule; line = 0; column = column }

-- the first column with a fault, counted from `from`, where these lines stand under COLUMNS and BOUNDS
unfoldable pub columns_fault : ℤ → List (List Bytes) → List (List Bytes) → ℕ → List Bytes → Option MpsFault
columns_fault default columns bounds from [] = None
columns_fault default columns bounds from (name ∷ names) = or_else
    (option_map (in_column from) (whole_fault default (is_marked name columns) (bounds_on name bounds)))
    (columns_fault default columns bounds (from + 1) names)

-- the faults of the lines before ENDATA as a whole
abbrev pub model_fault : ℤ → List Bytes → Option MpsFault
model_fault default lines =
    if is_none (objective_of (under Rows lines)) then Some (at_line 0 rules.NoObjective)
    else columns_fault default (under Columns lines) (under Bounds lines) 0 (columns_of (under Columns lines))

-- the first fault of a text, with a default upper bound
unfoldable pub first_fault : ℤ → List ℕ → Option MpsFault
first_fault default text =
    if nat_lt MAX_TEXT_BYTES (length text) then Some (at_line 0 rules.TooLong)
    else or_else (lines_fault [] (lines_of text)) (model_fault default (lines_read (lines_of text)))
