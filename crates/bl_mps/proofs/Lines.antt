-- The lines that are read, one after the other, leave what they say, or the first fault.
use Rattle.std.proofs.Common.{◌≡◌, ℕ, suc, ◌+◌, ◌<◌, Bool, true, false, cond, not, ◌||◌, ◌&&◌, eqb, List, [], ◌∷◌, ◌++◌}
use Rattle.std.proofs.Common.{length, take, drop, map, Option, Some, None, is_none, Result, Ok, Err, ℤ, refl, sym, ap}
use Rattle.std.proofs.Common.{subst, ◌∙◌, append_assoc, arith}
use Rattle.std.specs.Option.{option_map, ok_or}
use Rattle.std.specs.List.{flat_map, take_while, prefix_len}
use Rattle.std.proofs.lemmas.Bool.{false≢true}
use Rattle.std.proofs.lemmas.List.{append-nil, map_push, length_push, length-map}
use Rattle.bl_text.specs.Fields.{fields_of}
use Rattle.bl_mps_terms.specs.declared.fault.MpsRule.{MpsRule}
use Rattle.bl_mps_terms.specs.declared.fault.MpsRule.TheVariants as rules
use Rattle.bl_mps_terms.specs.declared.fault.MpsFault.{MpsFault}
use Rattle.bl_mps_terms.specs.declared.words.Section.{Section}
use Rattle.bl_mps_terms.specs.declared.words.Section.TheVariants.{Name, ObjSense, Rows, Columns, RightSides, Ranges}
use Rattle.bl_mps_terms.specs.declared.words.Section.TheVariants.{Bounds, End}
use Rattle.bl_mps_terms.specs.Words.{Bytes, section_named}
use Rattle.bl_mps_terms.specs.Parts.{field, is_skipped, begins_section, is_heading, section_begun, section_behind}
use Rattle.bl_mps_terms.specs.Parts.{section_after, sections_of, senses_from, data_from, lines_read, is_in, is_end}
use Rattle.bl_mps_terms.specs.Rules.{first_of, unless}
use Rattle.bl_mps_terms.specs.Lines.{row_names, sense_fault, row_fault, columns_of, column_fault, is_marked}
use Rattle.bl_mps_terms.specs.Lines.{right_side_fault, range_fault, bound_fault, parts_fault, bound_line}
use Rattle.bl_mps_terms.specs.Meaning.{number_after}
use Rattle.bl_mps_terms.specs.Faults.{may_begin, has_good_sense, section_fault, heading_fault, data_fault, line_fault}
use Rattle.bl_mps_terms.specs.Faults.{at_line, or_else, lines_fault}
use Rattle.bl_mps_read.specs.declared.bounds.Bounds.{Bounds as BoundList}
use Rattle.bl_mps_read.specs.Bounds.{bound_added}
use Rattle.bl_mps_read.specs.Columns.{ColumnList, column_added}
use Rattle.bl_mps_read.specs.Reader.{State, no_state, sense_behind, heading_read, sense_read, with_mark, row_read}
use Rattle.bl_mps_read.specs.Reader.{with_sense, with_columns, with_right_sides, with_ranges, bounds_read, data_in}
use Rattle.bl_mps_read.specs.Reader.{data_read, line_read, read_behind, text_read}
use Rattle.bl_mps_read.specs.Rows.{RowList, row_added}
use Rattle.bl_mps_read.specs.Sections.{next_may_be, with_section}
use Rattle.bl_mps_read.specs.Sides.{ranges_added, right_sides_added}
use Rattle.bl_mps_read.specs.Stops.{◌>>=◌}
use Rattle.bl_mps.proofs.Agrees.{Read, Agrees, agrees_ok, agrees_then, agrees_last, agrees_map, agrees_more}
use Rattle.bl_mps.proofs.Agrees.{agrees_cond}
use Rattle.bl_mps.proofs.Bounds.{bounds_of, bound_step}
use Rattle.bl_mps.proofs.ColumnNames.{inside_after}
use Rattle.bl_mps.proofs.Columns.{ColumnsHold, column_step, columns_wait}
use Rattle.bl_mps.proofs.LineParts.{LineParts, parts_of, pushed, parts-push, pushed_skipped, heading_added}
use Rattle.bl_mps.proofs.LineParts.{pushed_heading, data_added, pushed_data}
use Rattle.bl_mps.proofs.Pairs.{numbers_of}
use Rattle.bl_mps.proofs.Rows.{RowsHold, row_step, rows_none}
use Rattle.bl_mps.proofs.Names.{distinct_nil}
use Rattle.bl_mps.proofs.Sections.{SectionsHold, sections_none, may_same, section_more, IsOrdered, ordered_none}
use Rattle.bl_mps.proofs.Sections.{ordered_more, heading_senses, SenseHolds, sense_none, sense_heading, sense_step}
use Rattle.bl_mps.proofs.Sides.{all_pairs, range_step, right_side_step}

-- ---- what is kept of the lines so far

pub record Holds (parts : LineParts) (state : State) : Type 0 where
  pub sections : SectionsHold parts.sections parts.present state.sections
  pub order : IsOrdered parts.sections parts.present parts.senses parts.columns parts.right_sides parts.ranges
      parts.bounds
  pub sense : SenseHolds parts.senses state.sense
  pub rows : RowsHold parts.rows state.rows
  pub columns : ColumnsHold parts.rows parts.columns parts.bounds state.rows state.columns
  pub right_sides : state.right_sides ≡ numbers_of state.rows.names (all_pairs parts.right_sides)
  pub ranges : state.ranges ≡ numbers_of state.rows.names (all_pairs parts.ranges)

pub holds_none : Holds (parts_of []) no_state
unfolding section_after sections_of senses_from data_from inside_after
holds_none = record {
  sections = sections_none;
  order = ordered_none;
  sense = sense_none;
  rows = rows_none;
  columns = record {
    names = refl;
    distinct = distinct_nil;
    numbers = refl;
    bounds = refl;
    count = refl;
    most = λ k lt. absurd (omega arith);
    marks = λ k lt some. absurd (omega arith);
    inside = refl;
  };
  right_sides = refl;
  ranges = refl;
}

-- ---- section lines

module _ (parts : LineParts) (state : State) (h : Holds parts state) where
  with_heading : (section : Section) → may_begin parts.sections section ≡ true
      → (line : List Bytes) (sense : Option Bool) → SenseHolds (parts.senses ++ heading_senses section line) sense
      → Holds (heading_added parts section line) (record {
        sections = with_section state.sections section;
        sense = sense;
        rows = state.rows;
        columns = state.columns;
        right_sides = state.right_sides;
        ranges = state.ranges;
      })
  with_heading section may line sense s = record {
    sections = section_more parts.sections parts.present state.sections h.sections section;
    order = ordered_more parts.sections parts.present parts.senses parts.columns parts.right_sides parts.ranges
        parts.bounds h.order section line may;
    sense = s;
    rows = h.rows;
    columns = h.columns;
    right_sides = h.right_sides;
    ranges = h.ranges;
  }

  heading_by : (may : Bool) (section : Section) (name : Bytes) (rest : List Bytes)
      → may_begin parts.sections section ≡ may
      → Agrees (first_of (unless may rules.BadSection ∷ unless (has_good_sense section (name ∷ rest)) rules.BadObjSense
      ∷ []))
      (cond may (sense_behind section state.sense rest >>= λ sense. Ok (record {
        sections = with_section state.sections section;
        sense = sense;
        rows = state.rows;
        columns = state.columns;
        right_sides = state.right_sides;
        ranges = state.ranges;
      })) (Err rules.BadSection)) (Holds (heading_added parts section (name ∷ rest)))
  heading_by false section name rest e = refl
  heading_by true section name rest e =
      agrees_last (unless (has_good_sense section (name ∷ rest)) rules.BadObjSense) _
      (Holds (heading_added parts section (name ∷ rest)))
      (agrees_map (unless (has_good_sense section (name ∷ rest)) rules.BadObjSense)
      (sense_behind section state.sense rest) (SenseHolds (parts.senses ++ heading_senses section (name ∷ rest)))
      (λ sense. record {
        sections = with_section state.sections section;
        sense = sense;
        rows = state.rows;
        columns = state.columns;
        right_sides = state.right_sides;
        ranges = state.ranges;
      }) (Holds (heading_added parts section (name ∷ rest))) (λ sense s. with_heading section e (name ∷ rest) sense s)
      (sense_heading parts.sections parts.senses state.sense h.sense h.order.no_senses section name rest e))

  -- the parts behind a section line
  abbrev behind_heading : Option Section → List Bytes → LineParts
  behind_heading None line = parts
  behind_heading (Some section) line = heading_added parts section line

  heading_named : (o : Option Section) (name : Bytes) (rest : List Bytes)
      → Agrees (section_fault parts.sections o (name ∷ rest))
      (ok_or o rules.BadSection >>= λ section. cond (next_may_be state.sections section)
      (sense_behind section state.sense rest >>= λ sense. Ok (record {
        sections = with_section state.sections section;
        sense = sense;
        rows = state.rows;
        columns = state.columns;
        right_sides = state.right_sides;
        ranges = state.ranges;
      })) (Err rules.BadSection)) (Holds (behind_heading o (name ∷ rest)))
  heading_named None name rest = refl
  heading_named (Some section) name rest =
      rw (may_same parts.sections parts.present state.sections h.sections section)
      (heading_by (may_begin parts.sections section) section name rest refl)

  heading_step : (line : List Bytes)
      → Agrees (section_fault parts.sections (section_named (field 0 line)) line) (heading_read state line)
      (Holds (behind_heading (section_named (field 0 line)) line))
  unfolding heading_read
  heading_step [] = refl
  heading_step (name ∷ rest) = heading_named (section_named name) name rest

  -- ---- data lines

  no_numbers : (name : Bytes) → number_after name [] ≡ None
  unfolding number_after
  no_numbers name = refl

  -- a row has no numbers under RHS and RANGES yet
  numbers_wait : (numbers : List (Option ℤ)) (before : List (List Bytes)) (line : List Bytes) (next : RowList)
      → numbers ≡ numbers_of state.rows.names (all_pairs before) → before ≡ []
      → next.names ≡ row_names (parts.rows ++ line ∷ [])
      → numbers ++ None ∷ [] ≡ numbers_of next.names (all_pairs before)
  numbers_wait numbers before line next are none names =
      let all : all_pairs before ≡ [] = ap all_pairs none in
      ap (λ (ns : List (Option ℤ)). ns ++ None ∷ [])
      (are ∙ ap (numbers_of state.rows.names) all ∙ ap (λ (ns : List Bytes). numbers_of ns []) h.rows.names)
      ∙ ap (λ (o : Option ℤ). numbers_of (row_names parts.rows) [] ++ o ∷ []) (sym (no_numbers (field 1 line)))
      ∙ sym (map_push (λ (name : Bytes). number_after name []) (row_names parts.rows) (field 1 line))
      ∙ ap (λ (ns : List Bytes). numbers_of ns []) (sym (map_push (field 1) parts.rows line) ∙ sym names)
      ∙ ap (numbers_of next.names) (sym all)

  row_data : parts.present ≡ Some Rows → (line : List Bytes)
      → Agrees (row_fault parts.rows line) (row_read state line) (Holds (data_added (Some Rows) parts line))
  unfolding row_read
  row_data p line =
      let early = h.order.in_rows p in
      agrees_map (row_fault parts.rows line) (row_added state.rows line) (RowsHold (parts.rows ++ line ∷ []))
      (λ rows. record {
        sections = state.sections;
        sense = state.sense;
        rows = rows;
        columns = with_mark state.columns;
        right_sides = state.right_sides ++ None ∷ [];
        ranges = state.ranges ++ None ∷ [];
      }) (Holds (data_added (Some Rows) parts line))
      (λ rows r.
      let size : length rows.names ≡ length state.rows.names + 1 =
      ap length r.names ∙ ap length (map_push (field 1) parts.rows line)
      ∙ length_push (row_names parts.rows) (field 1 line)
      ∙ ap (λ (ns : List Bytes). length ns + 1) (sym h.rows.names) in
      let wait : ColumnsHold parts.rows [] [] state.rows state.columns =
      subst (λ (cs : List (List Bytes)). ColumnsHold parts.rows cs [] state.rows state.columns)
      (h.order.no_columns early)
      (subst (λ (bs : List (List Bytes)). ColumnsHold parts.rows parts.columns bs state.rows state.columns)
      (h.order.no_bounds early) h.columns) in
      record {
        sections = h.sections;
        order = h.order;
        sense = h.sense;
        rows = r;
        columns = subst (λ (bs : List (List Bytes)). ColumnsHold (parts.rows ++ line ∷ []) parts.columns bs rows
            (with_mark state.columns)) (sym (h.order.no_bounds early))
            (subst (λ (cs : List (List Bytes)). ColumnsHold (parts.rows ++ line ∷ []) cs [] rows
            (with_mark state.columns)) (sym (h.order.no_columns early))
            (columns_wait parts.rows (parts.rows ++ line ∷ []) state.rows rows state.columns wait size));
        right_sides = numbers_wait state.right_sides parts.right_sides line rows h.right_sides
            (h.order.no_right_sides early) r.names;
        ranges = numbers_wait state.ranges parts.ranges line rows h.ranges (h.order.no_ranges early) r.names;
      }) (row_step parts.rows state.rows h.rows line)

  column_data : parts.present ≡ Some Columns → (line : List Bytes)
      → Agrees (column_fault parts.rows parts.columns line)
      (column_added state.rows state.columns line >>= λ columns. Ok (with_columns state columns))
      (Holds (data_added (Some Columns) parts line))
  column_data p line =
      let in_columns = h.order.in_columns p in
      let none : parts.bounds ≡ [] = in_columns.1 in
      let first : ColumnsHold parts.rows parts.columns [] state.rows state.columns =
      subst (λ (bs : List (List Bytes)). ColumnsHold parts.rows parts.columns bs state.rows state.columns) none
      h.columns in
      agrees_map (column_fault parts.rows parts.columns line) (column_added state.rows state.columns line)
      (ColumnsHold parts.rows (parts.columns ++ line ∷ []) [] state.rows)
      (λ columns. with_columns state columns) (Holds (data_added (Some Columns) parts line))
      (λ columns c. record {
        sections = h.sections;
        order = record {
          no_columns = λ e. absurd (false≢true (sym e ∙ in_columns.0));
          no_right_sides = h.order.no_right_sides;
          no_ranges = h.order.no_ranges;
          no_bounds = h.order.no_bounds;
          no_senses = h.order.no_senses;
          needs_rows = h.order.needs_rows;
          in_senses = h.order.in_senses;
          in_rows = h.order.in_rows;
          in_columns = h.order.in_columns;
          in_right_sides = h.order.in_right_sides;
          in_ranges = h.order.in_ranges;
          in_bounds = h.order.in_bounds;
        };
        sense = h.sense;
        rows = h.rows;
        columns = subst (λ (bs : List (List Bytes)). ColumnsHold parts.rows
            (parts.columns ++ line ∷ []) bs state.rows columns) (sym none) c;
        right_sides = h.right_sides;
        ranges = h.ranges;
      }) (column_step parts.rows parts.columns state.rows h.rows state.columns first line)

  right_side_data : parts.present ≡ Some RightSides → (line : List Bytes)
      → Agrees (right_side_fault parts.rows parts.right_sides line)
      (right_sides_added state.rows state.right_sides line >>= λ sides. Ok (with_right_sides state sides))
      (Holds (data_added (Some RightSides) parts line))
  right_side_data p line =
      agrees_map (right_side_fault parts.rows parts.right_sides line)
      (right_sides_added state.rows state.right_sides line)
      (λ ns. ns ≡ numbers_of state.rows.names (all_pairs (parts.right_sides ++ line ∷ [])))
      (λ sides. with_right_sides state sides) (Holds (data_added (Some RightSides) parts line))
      (λ sides s. record {
        sections = h.sections;
        order = record {
          no_columns = h.order.no_columns;
          no_right_sides = λ e. absurd (false≢true (sym e ∙ h.order.in_right_sides p));
          no_ranges = h.order.no_ranges;
          no_bounds = h.order.no_bounds;
          no_senses = h.order.no_senses;
          needs_rows = h.order.needs_rows;
          in_senses = h.order.in_senses;
          in_rows = h.order.in_rows;
          in_columns = h.order.in_columns;
          in_right_sides = h.order.in_right_sides;
          in_ranges = h.order.in_ranges;
          in_bounds = h.order.in_bounds;
        };
        sense = h.sense;
        rows = h.rows;
        columns = h.columns;
        right_sides = s;
        ranges = h.ranges;
      }) (right_side_step parts.rows state.rows h.rows parts.right_sides state.right_sides line h.right_sides)

  range_data : parts.present ≡ Some Ranges → (line : List Bytes)
      → Agrees (range_fault parts.rows parts.ranges line)
      (ranges_added state.rows state.ranges line >>= λ ranges. Ok (with_ranges state ranges))
      (Holds (data_added (Some Ranges) parts line))
  range_data p line =
      agrees_map (range_fault parts.rows parts.ranges line) (ranges_added state.rows state.ranges line)
      (λ ns. ns ≡ numbers_of state.rows.names (all_pairs (parts.ranges ++ line ∷ [])))
      (λ ranges. with_ranges state ranges) (Holds (data_added (Some Ranges) parts line))
      (λ ranges s. record {
        sections = h.sections;
        order = record {
          no_columns = h.order.no_columns;
          no_right_sides = h.order.no_right_sides;
          no_ranges = λ e. absurd (false≢true (sym e ∙ h.order.in_ranges p));
          no_bounds = h.order.no_bounds;
          no_senses = h.order.no_senses;
          needs_rows = h.order.needs_rows;
          in_senses = h.order.in_senses;
          in_rows = h.order.in_rows;
          in_columns = h.order.in_columns;
          in_right_sides = h.order.in_right_sides;
          in_ranges = h.order.in_ranges;
          in_bounds = h.order.in_bounds;
        };
        sense = h.sense;
        rows = h.rows;
        columns = h.columns;
        right_sides = h.right_sides;
        ranges = s;
      }) (range_step parts.rows state.rows h.rows parts.ranges state.ranges line h.ranges)

  -- the columns with other bounds
  abbrev bounded_columns : List BoundList → ColumnList
  bounded_columns bounds =
      record {
        names = state.columns.names;
        numbers = state.columns.numbers;
        bounds = bounds;
        marks =
            state.columns.marks;
        inside = state.columns.inside;
      }

  not_columns : (section : Option Section) → parts.present ≡ section → is_in Columns section ≡ false
      → parts.present ≡ Some Columns → ⊥
  not_columns section e f q = false≢true (sym f ∙ ap (is_in Columns) (sym e ∙ q))

  bound_data : parts.present ≡ Some Bounds → (line : List Bytes)
      → Agrees (bound_fault parts.columns line)
      (bounds_read state.columns line >>= λ columns. Ok (with_columns state columns))
      (Holds (data_added (Some Bounds) parts line))
  bound_data p line =
      agrees_map (bound_fault parts.columns line) (bounds_read state.columns line)
      (ColumnsHold parts.rows parts.columns (parts.bounds ++ line ∷ []) state.rows)
      (λ columns. with_columns state columns) (Holds (data_added (Some Bounds) parts line))
      (λ columns c. record {
        sections = h.sections;
        order = record {
          no_columns = h.order.no_columns;
          no_right_sides = h.order.no_right_sides;
          no_ranges = h.order.no_ranges;
          no_bounds = λ e. absurd (false≢true (sym e ∙ h.order.in_bounds p));
          no_senses = h.order.no_senses;
          needs_rows = h.order.needs_rows;
          in_senses = h.order.in_senses;
          in_rows = h.order.in_rows;
          in_columns = λ e. absurd (not_columns (Some Bounds) p refl e);
          in_right_sides = h.order.in_right_sides;
          in_ranges = h.order.in_ranges;
          in_bounds = h.order.in_bounds;
        };
        sense = h.sense;
        rows = h.rows;
        columns = c;
        right_sides = h.right_sides;
        ranges = h.ranges;
      })
      (agrees_map (bound_fault parts.columns line) (bound_added state.columns.names state.columns.bounds line)
      (λ bs. bs ≡ bounds_of (λ column. is_marked column parts.columns) (parts.bounds ++ line ∷ []) state.columns.names)
      bounded_columns
      (ColumnsHold parts.rows parts.columns (parts.bounds ++ line ∷ []) state.rows)
      (λ bounds b. record {
        names = h.columns.names;
        distinct = h.columns.distinct;
        numbers = h.columns.numbers;
        bounds = b;
        count = h.columns.count;
        most = h.columns.most;
        marks = h.columns.marks;
        inside = h.columns.inside;
      })
      (subst (λ (ns : List Bytes). Agrees (parts_fault ns (bound_line line))
      (bound_added state.columns.names state.columns.bounds line)
      (λ bs. bs ≡ bounds_of (λ column. is_marked column parts.columns)
      (parts.bounds ++ line ∷ []) state.columns.names)) h.columns.names
      (bound_step state.columns.names h.columns.distinct
      (λ column. is_marked column parts.columns) parts.bounds state.columns.bounds h.columns.bounds line)))

  sense_data : parts.present ≡ Some ObjSense → (line : List Bytes)
      → Agrees (sense_fault parts.senses line) (sense_read state.sense line >>= λ sense. Ok (with_sense state sense))
      (Holds (data_added (Some ObjSense) parts line))
  sense_data p line =
      agrees_map (sense_fault parts.senses line) (sense_read state.sense line)
      (SenseHolds (parts.senses ++ take 1 line)) (λ sense. with_sense state sense)
      (Holds (data_added (Some ObjSense) parts line))
      (λ sense s. record {
        sections = h.sections;
        order = record {
          no_columns = h.order.no_columns;
          no_right_sides = h.order.no_right_sides;
          no_ranges = h.order.no_ranges;
          no_bounds = h.order.no_bounds;
          no_senses = λ e. absurd (false≢true (sym e ∙ h.order.in_senses p));
          needs_rows = h.order.needs_rows;
          in_senses = h.order.in_senses;
          in_rows = h.order.in_rows;
          in_columns = h.order.in_columns;
          in_right_sides = h.order.in_right_sides;
          in_ranges = h.order.in_ranges;
          in_bounds = h.order.in_bounds;
        };
        sense = s;
        rows = h.rows;
        columns = h.columns;
        right_sides = h.right_sides;
        ranges = h.ranges;
      }) (sense_step parts.senses state.sense h.sense line)

-- ---- one line

module _ (before : List Bytes) (state : State) (h : Holds (parts_of before) state) where
  data_by : (present : Option Section) → section_after None before ≡ present → (line : List Bytes)
      → Agrees (data_fault present before line) (data_in present state line)
      (Holds (data_added present (parts_of before) line))
  data_by (Some ObjSense) p line = sense_data (parts_of before) state h p line
  data_by (Some Rows) p line = row_data (parts_of before) state h p line
  data_by (Some Columns) p line = column_data (parts_of before) state h p line
  data_by (Some RightSides) p line = right_side_data (parts_of before) state h p line
  data_by (Some Ranges) p line = range_data (parts_of before) state h p line
  data_by (Some Bounds) p line = bound_data (parts_of before) state h p line
  data_by (Some Name) p line = refl
  data_by (Some End) p line = refl
  data_by None p line = refl

  moved : (parts : LineParts) (line : Bytes) → pushed (parts_of before) line ≡ parts → (next : State)
      → Holds parts next → Holds (parts_of (before ++ line ∷ [])) next
  moved parts line e next q = subst (λ (p : LineParts). Holds p next) (sym (parts-push before line ∙ e)) q

  data_line : (line : Bytes) → is_skipped line ≡ false → begins_section line ≡ false
      → Agrees (data_fault (section_after None before) before (fields_of line)) (data_read state (fields_of line))
      (Holds (parts_of (before ++ line ∷ [])))
  unfolding data_read
  data_line line s b =
      agrees_more (data_fault (section_after None before) before (fields_of line))
      (data_in state.sections.present state (fields_of line))
      (Holds (data_added (section_after None before) (parts_of before) (fields_of line)))
      (Holds (parts_of (before ++ line ∷ [])))
      (λ next q. moved (data_added (section_after None before) (parts_of before) (fields_of line)) line
      (pushed_data (parts_of before) line (section_after None before) refl s b) next q)
      (subst (λ (p : Option Section). Agrees (data_fault (section_after None before) before (fields_of line))
      (data_in p state (fields_of line))
      (Holds (data_added (section_after None before) (parts_of before) (fields_of line)))) (sym h.sections.is_present)
      (data_by (section_after None before) refl (fields_of line)))

  heading_moved : (line : Bytes) → is_skipped line ≡ false → begins_section line ≡ true → (o : Option Section)
      → section_named (field 0 (fields_of line)) ≡ o → (read : Result State MpsRule)
      → Agrees (section_fault (sections_of before) o (fields_of line)) read
      (Holds (behind_heading (parts_of before) state h o (fields_of line)))
      → Agrees (section_fault (sections_of before) o (fields_of line)) read (Holds (parts_of (before ++ line ∷ [])))
  heading_moved line s b None e read q = q
  heading_moved line s b (Some section) e read q =
      agrees_more (section_fault (sections_of before) (Some section) (fields_of line)) read
      (Holds (heading_added (parts_of before) section (fields_of line))) (Holds (parts_of (before ++ line ∷ [])))
      (λ next r. moved (heading_added (parts_of before) section (fields_of line)) line
      (pushed_heading (parts_of before) line section s b e) next r) q

  heading_line : (line : Bytes) → is_skipped line ≡ false → begins_section line ≡ true
      → Agrees (heading_fault before (fields_of line)) (heading_read state (fields_of line))
      (Holds (parts_of (before ++ line ∷ [])))
  heading_line line s b =
      heading_moved line s b (section_named (field 0 (fields_of line))) refl (heading_read state (fields_of line))
      (heading_step (parts_of before) state h (fields_of line))

  -- One line agrees with its faults.
  pub line_step : (line : Bytes)
      → Agrees (line_fault before line) (line_read state line) (Holds (parts_of (before ++ line ∷ [])))
  unfolding line_fault line_read
  line_step line =
      agrees_cond (is_skipped line) None _ (Ok state) _ (Holds (parts_of (before ++ line ∷ [])))
      (λ s. agrees_ok (Ok state) state (Holds (parts_of (before ++ line ∷ []))) refl
      (moved (parts_of before) line (pushed_skipped (parts_of before) line s) state h))
      (λ s. agrees_cond (begins_section line) (heading_fault before (fields_of line))
      (data_fault (section_after None before) before (fields_of line))
      (heading_read state (fields_of line)) (data_read state (fields_of line)) (Holds (parts_of (before ++ line ∷ [])))
      (λ b. heading_line line s b) (λ b. data_line line s b))

-- ---- all lines

-- the parts end where the line ENDATA does
ended_by : (heading : Bool) (begun present : Option Section) → is_in End present ≡ false
    → is_in End (cond heading begun present) ≡ is_in End (cond heading begun None)
ended_by true begun present e = refl
ended_by false begun present e = e

ended_same : (before : List Bytes) (line : Bytes) → is_in End (section_after None before) ≡ false
    → is_in End (section_after None (before ++ line ∷ [])) ≡ is_end line
ended_same before line e =
    ap (λ (p : LineParts). is_in End p.present) (parts-push before line)
    ∙ ended_by (is_heading line) (section_begun line) (section_after None before) e
    ∙ heading_begun (is_heading line) (section_named (field 0 (fields_of line)))
  where
    heading_begun : (heading : Bool) (named : Option Section)
        → is_in End (cond heading (cond heading named None) None) ≡ is_in End (cond heading named None)
    heading_begun true named = refl
    heading_begun false named = refl

-- what a text that was read to ENDATA left: the parts of the lines before it, but for the present section
pub record Left (lines : List Bytes) (state : State) : Type 0 where
  pub end : Bytes
  pub is_end : is_end end ≡ true
  pub holds : Holds (parts_of (lines ++ end ∷ [])) state

-- the state is that of the lines, or the fault is theirs
abbrev pub Finds : List Bytes → Option MpsFault → Result State MpsFault → Type 0
Finds lines (Some fault) read = read ≡ Err fault
Finds lines None read = (state : State) × (read ≡ Ok state) × Left lines state

-- the lines before ENDATA
before_end : List Bytes → List Bytes
before_end [] = []
before_end (line ∷ lines) = cond (is_end line) [] (line ∷ before_end lines)

finds_step : (before lines : List Bytes) (line : Bytes) (fault : Option MpsRule) (read : Result State MpsRule)
    → Agrees fault read (Holds (parts_of (before ++ line ∷ [])))
    → is_in End (section_after None before) ≡ false → (next : State → Result State MpsFault) (later : Option MpsFault)
    → ((state : State) → Holds (parts_of (before ++ line ∷ [])) state
    → is_in End (section_after None (before ++ line ∷ [])) ≡ false
    → Finds ((before ++ line ∷ []) ++ before_end lines) later (next state))
    → Finds (before ++ cond (is_end line) [] (line ∷ before_end lines))
    (or_else (option_map (at_line (length before + 1)) fault) (cond (is_end line) None later))
    (read_behind (length before + 1) read next)
finds_step before lines line (Some rule) read a e next later go =
    ap (λ (r : Result State MpsRule). read_behind (length before + 1) r next) a
finds_step before lines line None read a e next later go =
    subst (λ (r : Result State MpsRule). Finds (before ++ cond (is_end line) [] (line ∷ before_end lines))
    (cond (is_end line) None later) (read_behind (length before + 1) r next)) (sym a.is)
    (by (is_end line) refl)
  where
    present : is_in End a.value.sections.present ≡ is_end line
    present = ap (is_in End) a.holds.sections.is_present ∙ ended_same before line e

    by : (test : Bool) → is_end line ≡ test
        → Finds (before ++ cond test [] (line ∷ before_end lines)) (cond test None later)
        (cond (is_in End a.value.sections.present) (Ok a.value) (next a.value))
    by true t = rw (present ∙ t) (
      a.value,
      refl,
      record {
        end = line;
        is_end = t;
        holds =
            subst (λ (ls : List Bytes). Holds (parts_of (ls ++ line ∷ [])) a.value) (sym (append-nil before)) a.holds;
      },
    )
    by false t =
        rw (present ∙ t) (subst (λ (ls : List Bytes). Finds ls later (next a.value))
        (append_assoc before (line ∷ []) (before_end lines)) (go a.value a.holds (ended_same before line e ∙ t)))

text_step : (before lines : List Bytes) (state : State) → Holds (parts_of before) state
    → is_in End (section_after None before) ≡ false → (number : ℕ) → number ≡ length before
    → Finds (before ++ before_end lines) (lines_fault before lines) (text_read number state lines)
unfolding lines_fault text_read before_end
text_step before [] state h e number n = ap (λ (k : ℕ). Err (at_line (k + 1) rules.NoEnd)) n
text_step before (line ∷ lines) state h e number n =
    rw n (finds_step before lines line (line_fault before line) (line_read state line)
    (line_step before state h line) e (λ next. text_read (length before + 1) next lines)
    (lines_fault (before ++ line ∷ []) lines)
    (λ next q f. text_step (before ++ line ∷ []) lines next q f (length before + 1) (sym (length_push before line))))

take_step : (test : Bool) (line : Bytes) (lines more : List Bytes) → take_while (λ l. not (is_end l)) lines ≡ more
    → is_end line ≡ test → take_while (λ l. not (is_end l)) (line ∷ lines) ≡ cond test [] (line ∷ more)
take_step true line lines more e t = rw t refl
take_step false line lines more e t =
    let one : 1 + prefix_len (λ l. not (is_end l)) lines ≡ suc (prefix_len (λ l. not (is_end l)) lines) = omega arith in
    rw t (ap (λ (n : ℕ). take n (line ∷ lines)) one ∙ ap (λ (ls : List Bytes). line ∷ ls) e)

lines_before : (lines : List Bytes) → lines_read lines ≡ before_end lines
unfolding before_end
lines_before [] = refl
lines_before (line ∷ lines) = take_step (is_end line) line lines (before_end lines) (lines_before lines) refl

never_ended : is_in End (section_after None []) ≡ false
unfolding section_after
never_ended = refl

-- A text is read to ENDATA, or to its first fault.
pub text_finds : (lines : List Bytes) → Finds (lines_read lines) (lines_fault [] lines) (text_read 0 no_state lines)
text_finds lines =
    subst (λ (ls : List Bytes). Finds ls (lines_fault [] lines) (text_read 0 no_state lines))
    (sym (lines_before lines)) (text_step [] lines no_state holds_none never_ended 0 refl)
