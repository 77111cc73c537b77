-- What lines that break no rule keep.
use Rattle.std.proofs.Common.{◌≡◌, ℕ, ◌+◌, ◌≤◌, Bool, true, false, cond, not, ◌||◌, eqb, ltb, List, []}
use Rattle.std.proofs.Common.{◌∷◌, ◌++◌, map, length, Option, Some, None, is_some, refl, sym, ap, subst, ◌∙◌, arith}
use Rattle.std.proofs.Common.{codes, append_assoc, drop, fold, take, filter, ◌-◌}
use Rattle.std.specs.Option.{option_map}
use Rattle.std.specs.List.{AllByRecursion, flat_map}
use Rattle.std.specs.Str.{bytes_eq}
use Rattle.std.proofs.lemmas.Bool.{false≢true, ltb-true}
use Rattle.std.proofs.lemmas.Grind.{flat_map-append}
use Rattle.std.proofs.lemmas.List.{append-nil, map_push, length_push}
use Rattle.std.proofs.lemmas.List.Elements.{filter-append}
use Rattle.bl_limits.specs.declared.TheConstants.{MAX_COLUMNS, MAX_NUMBER, MAX_TEXT_ROWS, MAX_TEXT_RHS}
use Rattle.bl_text.specs.Fields.{fields_of}
use Rattle.bl_text.specs.Lines.{IsLine}
use Rattle.bl_mps_terms.specs.declared.fault.MpsRule.{MpsRule}
use Rattle.bl_mps_terms.specs.declared.fault.MpsRule.TheVariants as rules
use Rattle.bl_mps_terms.specs.declared.fault.MpsFault.{MpsFault}
use Rattle.bl_mps_terms.specs.declared.words.Section.{Section}
use Rattle.bl_mps_terms.specs.declared.words.Section.TheVariants.{Name, ObjSense, Rows, Columns, RightSides, Ranges}
use Rattle.bl_mps_terms.specs.declared.words.Section.TheVariants.{Bounds, End}
use Rattle.bl_mps_terms.specs.Words.{Bytes, row_kind, section_named}
use Rattle.bl_mps_terms.specs.Parts.{field, is_skipped, begins_section, section_after, is_end, lines_read}
use Rattle.bl_mps_terms.specs.Parts.{sections_of, senses_from, data_from}
use Rattle.bl_mps_terms.specs.Rules.{first_of, when, unless, is_named, number_fault, pair_fault, pairs_fault}
use Rattle.bl_mps_terms.specs.Rules.{pairs_from}
use Rattle.bl_mps_terms.specs.Lines.{is_free_row, row_names, bounded_rows, row_fault, is_marker, columns_of, appended}
use Rattle.bl_mps_terms.specs.Lines.{pairs_on, name_fault, names_in, column_fault, is_even, pairs_of_set}
use Rattle.bl_mps_terms.specs.Lines.{set_fault, objective_of}
use Rattle.bl_mps_terms.specs.Faults.{section_fault, heading_fault, data_fault, line_fault, at_line, or_else}
use Rattle.bl_mps_terms.specs.Faults.{lines_fault}
use Rattle.bl_mps.proofs.ColumnNames.{columns_of-push, column_lines-marker, pairs_on-push, pairs_of}
use Rattle.bl_mps.proofs.LineParts.{LineParts, parts_of, pushed, parts-push, pushed_skipped, heading_added}
use Rattle.bl_mps.proofs.LineParts.{pushed_heading, data_added, pushed_data}
use Rattle.bl_mps.proofs.Names.{IsFresh}
use Rattle.bl_mps_laws.proofs.Fresh.{fresh_push}
use Rattle.bl_mps_laws.proofs.Sayable.{IsRowName}
use Rattle.bl_mps_laws.proofs.TextWords.{words_of}
use Rattle.bl_mps_laws.proofs.Tokens.{IsWord, lines_read-first}
use Rattle.bl_mps_laws.proofs.Walks.{field_fault, field_fault-same}

-- ---- no fault among several

pub none_first : (fault : Option MpsRule) (faults : List (Option MpsRule)) → first_of (fault ∷ faults) ≡ None
    → (fault ≡ None) × (first_of faults ≡ None)
none_first None faults e = (refl, e)
none_first (Some rule) faults e = absurd cc

pub none_unless : (test : Bool) (rule : MpsRule) → unless test rule ≡ None → test ≡ true
none_unless true rule e = refl
none_unless false rule e = absurd cc

pub none_when : (test : Bool) (rule : MpsRule) → when test rule ≡ None → test ≡ false
none_when true rule e = absurd cc
none_when false rule e = refl

-- ---- lists

pub all_append : {A : Type 0} (P : A → Type 0) (xs ys : List A) → AllByRecursion P xs → AllByRecursion P ys
    → AllByRecursion P (xs ++ ys)
all_append P [] ys h k = k
all_append P (x ∷ xs) ys h k = (h.0, all_append P xs ys h.1 k)

-- ---- rows

-- a row's kind and name
pub record IsRowLine (line : List Bytes) : Type 0 where
  pub kind : is_some (row_kind (field 0 line)) ≡ true
  pub name : IsRowName (field 1 line)

-- Under ROWS each name stands once, and few enough rows are bounded.
pub record RowsKeep (rows : List (List Bytes)) : Type 0 where
  pub lines : AllByRecursion IsRowLine rows
  pub distinct : IsFresh (row_names rows)
  pub count : length (bounded_rows rows) ≤ MAX_TEXT_ROWS

second_word : (line : List Bytes) → eqb (length line) 2 ≡ true → AllByRecursion IsWord line → IsWord (field 1 line)
second_word [] e h = absurd (false≢true e)
second_word (a ∷ []) e h = absurd (false≢true e)
second_word (a ∷ b ∷ fields) e h = h.1.0

bounded_count : (rows : List (List Bytes)) (line : List Bytes) (free : Bool) → is_free_row line ≡ free
    → (free || ltb (length (bounded_rows rows)) MAX_TEXT_ROWS) ≡ true → length (bounded_rows rows) ≤ MAX_TEXT_ROWS
    → length (bounded_rows (rows ++ line ∷ [])) ≤ MAX_TEXT_ROWS
bounded_count rows line true e room few =
    let same : bounded_rows (rows ++ line ∷ []) ≡ bounded_rows rows =
    filter-append (λ l. not (is_free_row l)) rows (line ∷ []) ∙ rw e (append-nil (bounded_rows rows)) in
    rw same few
bounded_count rows line false e room few =
    let more : bounded_rows (rows ++ line ∷ []) ≡ bounded_rows rows ++ line ∷ [] =
    filter-append (λ l. not (is_free_row l)) rows (line ∷ []) ∙ rw e refl in
    let less = ltb-true (length (bounded_rows rows)) MAX_TEXT_ROWS room in
    rw more (omega (arith, less, length_push (bounded_rows rows) line))

rows_step : (rows : List (List Bytes)) (line : List Bytes) → row_fault rows line ≡ None → AllByRecursion IsWord line
    → RowsKeep rows → RowsKeep (rows ++ line ∷ [])
rows_step rows line e words h =
    let fields = none_first (unless (eqb (length line) 2) rules.BadFields) _ e in
    let kind = none_first (unless (is_some (row_kind (field 0 line))) rules.BadFields) _ fields.1 in
    let marker = none_first (when (bytes_eq (field 1 line) (codes "'MARKER'")) rules.BadFields) _ kind.1 in
    let there = none_first (when (is_named (row_names rows) (field 1 line)) rules.DuplicateRow) _ marker.1 in
    let room = none_first (unless (is_free_row line || ltb (length (bounded_rows rows)) MAX_TEXT_ROWS) rules.TooMany)
    [] there.1 in
    record {
      lines = all_append IsRowLine rows (line ∷ []) h.lines (
        record {
          kind = none_unless _ rules.BadFields kind.0;
          name = record {
            word = second_word line (none_unless _ rules.BadFields fields.0) words;
            apart = none_when _ rules.BadFields marker.0;
          };
        },
        tt,
      );
      distinct = subst IsFresh (sym (map_push (field 1) rows line))
          (fresh_push (row_names rows) (field 1 line) h.distinct (none_when _ rules.DuplicateRow there.0));
      count = bounded_count rows line (is_free_row line) refl (none_unless _ rules.TooMany room.0) h.count;
    }

-- ---- pairs

-- the pair's number is one of at most this magnitude
abbrev pub IsNumbered : ℕ → Bytes × Bytes → Type 0
IsNumbered most pair = number_fault most pair.1 ≡ None

pairs_numbered : (rows : List Bytes) (most : ℕ) (objective : Option Bytes) (given : List Bytes)
    (pairs : List (Bytes × Bytes)) → pairs_fault rows most objective given pairs ≡ None
    → AllByRecursion (IsNumbered most) pairs
unfolding pairs_fault
pairs_numbered rows most objective given [] e = tt
pairs_numbered rows most objective given (pair ∷ pairs) e =
    let here = none_first (pair_fault rows most objective given pair)
    (pairs_fault rows most objective (given ++ pair.0 ∷ []) pairs ∷ []) e in
    let rest = none_first (pairs_fault rows most objective (given ++ pair.0 ∷ []) pairs) [] here.1 in
    let known = none_first (unless (is_named rows pair.0) rules.UnknownRow) _ here.0 in
    let number = none_first (number_fault most pair.1) _ known.1 in
    (number.0, pairs_numbered rows most objective (given ++ pair.0 ∷ []) pairs rest.0)

-- ---- the lines of sets

-- Under RHS and under RANGES every number is small enough.
pub record SetKeeps (lines : List (List Bytes)) : Type 0 where
  pub small : AllByRecursion (IsNumbered MAX_TEXT_RHS) (flat_map pairs_of_set lines)

set_step : (objective : Option Bytes) (rows before : List (List Bytes)) (line : List Bytes)
    → set_fault MAX_TEXT_RHS objective rows before line ≡ None → SetKeeps before → SetKeeps (before ++ line ∷ [])
set_step objective rows before line e h =
    let fields = none_first
    (unless (is_even (length line) || (eqb (length line) 3 || eqb (length line) 5)) rules.BadFields) _ e in
    let used = names_in (flat_map pairs_of_set before) in
    let pairs = none_first (pairs_fault (row_names rows) MAX_TEXT_RHS objective used (pairs_of_set line)) []
    fields.1 in
    record {
      small = subst (AllByRecursion (IsNumbered MAX_TEXT_RHS))
          (sym (flat_map-append pairs_of_set before (line ∷ [])
          ∙ ap (λ (ps : List (Bytes × Bytes)). flat_map pairs_of_set before ++ ps) (append-nil (pairs_of_set line))))
          (all_append (IsNumbered MAX_TEXT_RHS) (flat_map pairs_of_set before) (pairs_of_set line) h.small
          (pairs_numbered (row_names rows) MAX_TEXT_RHS objective used (pairs_of_set line) pairs.0));
    }

-- ---- columns

-- Under COLUMNS the columns are words, each once and few enough, and every number is small.
pub record ColumnsKeep (lines : List (List Bytes)) : Type 0 where
  pub words : AllByRecursion IsWord (columns_of lines)
  pub distinct : IsFresh (columns_of lines)
  pub count : length (columns_of lines) ≤ MAX_COLUMNS
  pub small : (name : Bytes) → AllByRecursion (IsNumbered MAX_NUMBER) (pairs_on name lines)

first_word : (line : List Bytes) → (eqb (length line) 3 || eqb (length line) 5) ≡ true → AllByRecursion IsWord line
    → IsWord (field 0 line)
first_word [] e h = absurd (false≢true e)
first_word (a ∷ fields) e h = h.0

-- the names with one more, where that isn't there yet
record NamesKeep (names : List Bytes) : Type 0 where
  words : AllByRecursion IsWord names
  distinct : IsFresh names
  count : length names ≤ MAX_COLUMNS

name_step : (names : List Bytes) (name : Bytes) (there : Bool) → is_named names name ≡ there → IsWord name
    → (there || ltb (length names) MAX_COLUMNS) ≡ true → NamesKeep names
    → NamesKeep (cond there names (names ++ name ∷ []))
name_step names name true e w room h = h
name_step names name false e w room h =
    let less = ltb-true (length names) MAX_COLUMNS room in
    record {
      words = all_append IsWord names (name ∷ []) h.words (w, tt);
      distinct = fresh_push names name h.distinct e;
      count = omega (arith, less, length_push names name);
    }

cond_all : (same : Bool) (pairs : List (Bytes × Bytes)) → AllByRecursion (IsNumbered MAX_NUMBER) pairs
    → AllByRecursion (IsNumbered MAX_NUMBER) (cond same pairs [])
cond_all true pairs h = h
cond_all false pairs h = tt

marker_step : (lines : List (List Bytes)) (line : List Bytes) → is_marker line ≡ true → ColumnsKeep lines
    → ColumnsKeep (lines ++ line ∷ [])
marker_step lines line m h =
    let same = column_lines-marker lines line m in
    let names : columns_of (lines ++ line ∷ []) ≡ columns_of lines =
    ap (λ (ls : List (List Bytes)). fold appended [] (map (field 0) ls)) same in
    record {
      words = subst (AllByRecursion IsWord) (sym names) h.words;
      distinct = subst IsFresh (sym names) h.distinct;
      count = subst (λ (ns : List Bytes). length ns ≤ MAX_COLUMNS) (sym names) h.count;
      small = λ name. subst (AllByRecursion (IsNumbered MAX_NUMBER))
          (sym (ap (λ (ls : List (List Bytes)). flat_map pairs_of
          (filter (λ (l : List Bytes). bytes_eq name (field 0 l)) ls)) same)) (h.small name);
    }

column_step : (rows lines : List (List Bytes)) (line : List Bytes) → is_marker line ≡ false
    → first_of (
    unless (eqb (length line) 3 || eqb (length line) 5) rules.BadFields ∷ name_fault (columns_of lines) (field 0 line)
    ∷ pairs_fault (row_names rows) MAX_NUMBER None (names_in (pairs_on (field 0 line) lines))
    (pairs_from (drop 1 line)) ∷ []) ≡ None
    → AllByRecursion IsWord line → ColumnsKeep lines → ColumnsKeep (lines ++ line ∷ [])
column_step rows lines line m e words h =
    let fields = none_first (unless (eqb (length line) 3 || eqb (length line) 5) rules.BadFields) _ e in
    let name = none_first (name_fault (columns_of lines) (field 0 line)) _ fields.1 in
    let pairs = none_first (pairs_fault (row_names rows) MAX_NUMBER None (names_in (pairs_on (field 0 line) lines))
    (pairs_from (drop 1 line))) [] name.1 in
    let late = none_first (when (is_named (take (length (columns_of lines) - 1) (columns_of lines)) (field 0 line))
    rules.DuplicateColumn) _ name.0 in
    let room = none_first (unless (is_named (columns_of lines) (field 0 line)
    || ltb (length (columns_of lines)) MAX_COLUMNS) rules.TooMany) [] late.1 in
    let kept : NamesKeep (appended (columns_of lines) (field 0 line)) =
    name_step (columns_of lines) (field 0 line) (is_named (columns_of lines) (field 0 line)) refl
    (first_word line (none_unless _ rules.BadFields fields.0) words) (none_unless _ rules.TooMany room.0)
    (record { words = h.words; distinct = h.distinct; count = h.count }) in
    let next : NamesKeep (columns_of (lines ++ line ∷ [])) =
    subst NamesKeep (sym (columns_of-push lines line m)) kept in
    record {
      words = next.words;
      distinct = next.distinct;
      count = next.count;
      small = λ column. subst (AllByRecursion (IsNumbered MAX_NUMBER)) (sym (pairs_on-push column lines line m))
          (all_append (IsNumbered MAX_NUMBER) (pairs_on column lines) _ (h.small column)
          (cond_all (bytes_eq column (field 0 line)) (pairs_of line)
          (pairs_numbered (row_names rows) MAX_NUMBER None (names_in (pairs_on (field 0 line) lines))
          (pairs_from (drop 1 line)) pairs.0)));
    }

columns_by : (rows lines : List (List Bytes)) (line : List Bytes) (marker : Bool) → is_marker line ≡ marker
    → column_fault rows lines line ≡ None → AllByRecursion IsWord line → ColumnsKeep lines
    → ColumnsKeep (lines ++ line ∷ [])
columns_by rows lines line true m e words h = marker_step lines line m h
columns_by rows lines line false m e words h = column_step rows lines line m (rw m at e) words h

-- ---- one line

pub record Keeps (parts : LineParts) : Type 0 where
  pub rows : RowsKeep parts.rows
  pub columns : ColumnsKeep parts.columns
  pub right_sides : SetKeeps parts.right_sides
  pub ranges : SetKeeps parts.ranges

data_keeps : (present : Option Section) (parts : LineParts) (line : List Bytes) → field_fault present parts line ≡ None
    → AllByRecursion IsWord line → Keeps parts → Keeps (data_added present parts line)
data_keeps (Some ObjSense) p line e words h =
    record { rows = h.rows; columns = h.columns; right_sides = h.right_sides; ranges = h.ranges }
data_keeps (Some Rows) p line e words h =
    record {
      rows = rows_step p.rows line e words h.rows;
      columns = h.columns;
      right_sides = h.right_sides;
      ranges = h.ranges;
    }
data_keeps (Some Columns) p line e words h =
    record {
      rows = h.rows;
      columns = columns_by p.rows p.columns line (is_marker line) refl e words h.columns;
      right_sides = h.right_sides;
      ranges = h.ranges;
    }
data_keeps (Some RightSides) p line e words h =
    record {
      rows = h.rows;
      columns = h.columns;
      right_sides = set_step (objective_of p.rows) p.rows p.right_sides line e h.right_sides;
      ranges = h.ranges;
    }
data_keeps (Some Ranges) p line e words h =
    record {
      rows = h.rows;
      columns = h.columns;
      right_sides = h.right_sides;
      ranges = set_step None p.rows p.ranges line e h.ranges;
    }
data_keeps (Some Bounds) p line e words h =
    record { rows = h.rows; columns = h.columns; right_sides = h.right_sides; ranges = h.ranges }
data_keeps (Some Name) p line e words h = absurd cc
data_keeps (Some End) p line e words h = absurd cc
data_keeps None p line e words h = absurd cc

heading_keeps : (parts : LineParts) (section : Section) (line : List Bytes) → Keeps parts
    → Keeps (heading_added parts section line)
heading_keeps p section line h =
    record { rows = h.rows; columns = h.columns; right_sides = h.right_sides; ranges = h.ranges }

module _ (before : List Bytes) (line : Bytes) (is_line : IsLine line) (h : Keeps (parts_of before)) where
  named_by : (named : Option Section) → section_named (field 0 (fields_of line)) ≡ named → is_skipped line ≡ false
      → begins_section line ≡ true
      → section_fault (parts_of before).sections named (fields_of line) ≡ None
      → Keeps (pushed (parts_of before) line)
  named_by None n s b e = absurd cc
  named_by (Some section) n s b e =
      subst Keeps (sym (pushed_heading (parts_of before) line section s b n))
      (heading_keeps (parts_of before) section (fields_of line) h)

  kept_by : (skipped begins : Bool) → is_skipped line ≡ skipped → begins_section line ≡ begins
      → cond skipped None (cond begins (heading_fault before (fields_of line))
      (data_fault (section_after None before) before (fields_of line))) ≡ None
      → Keeps (pushed (parts_of before) line)
  kept_by true begins s b e = subst Keeps (sym (pushed_skipped (parts_of before) line s)) h
  kept_by false true s b e =
      named_by (section_named (field 0 (fields_of line))) refl s b e
  kept_by false false s b e =
      subst Keeps (sym (pushed_data (parts_of before) line (parts_of before).present refl s b))
      (data_keeps (parts_of before).present (parts_of before) (fields_of line)
      (sym (field_fault-same (parts_of before).present before (fields_of line)) ∙ e) (words_of line is_line) h)

  -- A line that breaks no rule keeps what was kept.
  pub line_keeps : line_fault before line ≡ None → Keeps (parts_of (before ++ line ∷ []))
  unfolding line_fault
  line_keeps e =
      subst Keeps (sym (parts-push before line)) (kept_by (is_skipped line) (begins_section line) refl refl e)

-- ---- all lines

none_or : (fault : Option MpsRule) (n : ℕ) (next : Option MpsFault)
    → or_else (option_map (at_line n) fault) next ≡ None → (fault ≡ None) × (next ≡ None)
none_or None n next e = (refl, e)
none_or (Some rule) n next e = absurd cc

end_step : (end : Bool) (before : List Bytes) (line : Bytes) (lines : List Bytes) → is_end line ≡ end
    → line_fault before line ≡ None → cond end None (lines_fault (before ++ line ∷ []) lines) ≡ None
    → IsLine line → Keeps (parts_of before)
    → (lines_fault (before ++ line ∷ []) lines ≡ None → Keeps (parts_of (before ++ line ∷ []))
    → Keeps (parts_of ((before ++ line ∷ []) ++ lines_read lines)))
    → Keeps (parts_of (before ++ lines_read (line ∷ lines)))
end_step true before line lines end e f l h next =
    subst (λ (ls : List Bytes). Keeps (parts_of ls)) (sym (rw end (append-nil before))) h
end_step false before line lines end e f l h next =
    subst (λ (ls : List Bytes). Keeps (parts_of ls))
    (append_assoc before (line ∷ []) (lines_read lines)
    ∙ ap (λ (ls : List Bytes). before ++ ls) (sym (lines_read-first line lines (lines_read lines) end refl)))
    (next f (line_keeps before line l h e))

-- Lines that break no rule keep it to ENDATA.
pub lines_keep : (before lines : List Bytes) → lines_fault before lines ≡ None → AllByRecursion IsLine lines
    → Keeps (parts_of before) → Keeps (parts_of (before ++ lines_read lines))
unfolding lines_fault
lines_keep before [] e l h = absurd cc
lines_keep before (line ∷ lines) e l h =
    let parts = none_or (line_fault before line) (length before + 1) _ e in
    end_step (is_end line) before line lines refl parts.0 parts.1 l.0 h
    (λ f k. lines_keep (before ++ line ∷ []) lines f l.1 k)

pub nothing_kept : Keeps (parts_of [])
unfolding section_after sections_of senses_from data_from
nothing_kept = record {
  rows = record { lines = tt; distinct = tt; count = omega arith };
  columns = record { words = tt; distinct = tt; count = omega arith; small = λ name. tt };
  right_sides = record { small = tt };
  ranges = record { small = tt };
}
