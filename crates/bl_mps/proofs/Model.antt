-- The model that is made of what was read is what the lines say, or it is refused with the fault of the whole.
use Rattle.std.proofs.Common.{◌≡◌, ℕ, suc, ◌+◌, ◌<◌, ◌≤◌, Bool, true, false, cond, not, ◌||◌, ◌&&◌, List, [], ◌∷◌, ◌++◌}
use Rattle.std.proofs.Common.{length, get_or, map, filter, Option, Some, None, is_some, is_none, Result, Ok, Err, ℤ}
use Rattle.std.proofs.Common.{pos, refl, sym, ap, subst, ◌∙◌, arith, add-one, zero-add}
use Rattle.std.specs.Prelude.{unwrap_or, IfSome, nat_lt}
use Rattle.std.specs.Option.{option_map, option_map_or}
use Rattle.std.specs.List.{AllZip, flat_map, list_any, range_with_len, enumerate_from}
use Rattle.std.proofs.lemmas.Bool.{false≢true}
use Rattle.std.proofs.lemmas.List.{append-nil, get_or-map, get_or_default, length-map, ext_get_or}
use Rattle.std.proofs.lemmas.List.FromFn.{length-map-range_with_len, get_or-map-range_with_len, length-enumerate_from}
use Rattle.std.proofs.lemmas.List.FromFn.{get_or-enumerate_from}
use Rattle.bl_limits.specs.declared.TheConstants.{MAX_TEXT_BYTES}
use Rattle.bl_raw.specs.declared.raw.RawRow.{RawRow}
use Rattle.bl_raw.specs.declared.raw.RawColumn.{RawColumn}
use Rattle.bl_raw.specs.declared.raw.RawMps.{RawMps}
use Rattle.bl_text.specs.Fields.{fields_of}
use Rattle.bl_text.specs.Lines.{lines_of}
use Rattle.bl_mps_terms.specs.declared.fault.MpsRule.{MpsRule}
use Rattle.bl_mps_terms.specs.declared.fault.MpsRule.TheVariants as rules
use Rattle.bl_mps_terms.specs.declared.fault.MpsFault.{MpsFault}
use Rattle.bl_mps_terms.specs.declared.words.RowKind.{RowKind}
use Rattle.bl_mps_terms.specs.declared.words.RowKind.TheVariants as kinds
use Rattle.bl_mps_terms.specs.declared.words.Section.{Section}
use Rattle.bl_mps_terms.specs.declared.words.Section.TheVariants.{Name, ObjSense, Rows, Columns, RightSides, Ranges}
use Rattle.bl_mps_terms.specs.declared.words.Section.TheVariants.{Bounds, End}
use Rattle.bl_mps_terms.specs.Words.{Bytes, row_kind, section_named}
use Rattle.bl_mps_terms.specs.Parts.{field, under, senses_of, lines_read, is_skipped, begins_section, is_heading}
use Rattle.bl_mps_terms.specs.Parts.{section_begun, is_in, is_end}
use Rattle.bl_mps_terms.specs.Rules.{is_zero, when, unless, first_of}
use Rattle.bl_mps_terms.specs.Lines.{BoundLine, row_names, objective_of, bounded_rows, columns_of, pairs_on}
use Rattle.bl_mps_terms.specs.Lines.{pairs_of_set, is_marked, bounds_on, lower_of, upper_of, whole_fault, is_above}
use Rattle.bl_mps_terms.specs.Lines.{makes_integer, sets_lower}
use Rattle.bl_mps_terms.specs.Faults.{or_else, in_column, at_line, lines_fault, columns_fault, model_fault, first_fault}
use Rattle.bl_mps_terms.specs.Meaning.{is_maximum, number_after, kind_of_row, row_with, row_of, coefficient, nonzero_of}
use Rattle.bl_mps_terms.specs.Meaning.{IsColumnOf, Says, Reads}
use Rattle.bl_mps_read.specs.declared.rows.BoundedRow.{BoundedRow}
use Rattle.bl_mps_read.specs.declared.bounds.Bounds.{Bounds as BoundList}
use Rattle.bl_mps_read.specs.Bounds.{no_bounds}
use Rattle.bl_mps_read.specs.Columns.{ColumnList}
use Rattle.bl_mps_read.specs.Reader.{State, no_state, text_read}
use Rattle.bl_mps_read.specs.Rows.{RowList}
use Rattle.bl_mps_model.specs.Whole.{upper_in, bounds_fault, bounds_faults}
use Rattle.bl_mps_model.specs.Model.{raw_row, raw_rows, number_at, entry_at, raw_entries, raw_column, column_at}
use Rattle.bl_mps_model.specs.Model.{raw_columns, model_of, model_at, model_read, model_behind, mps_read}
use Rattle.bl_mps_model.proofs.Columns.{AreOrdered, faultless_ordered, faultless_at}
use Rattle.bl_mps.proofs.Bounds.{bounds_for, bounds_of, last_upper}
use Rattle.bl_mps.proofs.Columns.{ColumnsHold}
use Rattle.bl_mps.proofs.LineParts.{LineParts, parts_of, pushed, parts-push, heading_added, pushed_heading}
use Rattle.bl_mps.proofs.Lines.{Holds, Left, Finds, text_finds}
use Rattle.bl_mps.proofs.Names.{StandsAt, table_at}
use Rattle.bl_mps.proofs.Pairs.{numbers_of}
use Rattle.bl_mps.proofs.Rows.{RowsHold, IsBounded, zip_length}
use Rattle.bl_mps.proofs.Sides.{all_pairs}
use Rattle.bl_mps.proofs.Slots.{numbers_for}

-- ---- rows

-- one row
row_is : (names : List Bytes) (right_sides ranges : List (Bytes × Bytes)) (line : List Bytes) (row : BoundedRow)
    → IsBounded names line row
    → raw_row names (numbers_of names right_sides) (numbers_of names ranges) row ≡ row_of right_sides ranges line
row_is names right_sides ranges line row h =
    let at : StandsAt names (field 1 line) row.place = record { within = h.within; is = h.name } in
    let kind : row.kind ≡ kind_of_row line = sym (ap (λ (o : Option RowKind). unwrap_or o kinds.Free) h.kind) in
    rw (
      h.name,
      kind,
      table_at (λ name. number_after name right_sides) names row.place (field 1 line) None at,
      table_at (λ name. number_after name ranges) names row.place (field 1 line) None at,
    ) refl

rows_are : (names : List Bytes) (right_sides ranges : List (Bytes × Bytes)) (lines : List (List Bytes))
    (rows : List BoundedRow) → AllZip (IsBounded names) lines rows
    → map (raw_row names (numbers_of names right_sides) (numbers_of names ranges)) rows
    ≡ map (row_of right_sides ranges) lines
rows_are names right_sides ranges [] [] h = refl
rows_are names right_sides ranges [] (y ∷ ys) h = absurd h
rows_are names right_sides ranges (x ∷ xs) [] h = absurd h
rows_are names right_sides ranges (x ∷ xs) (y ∷ ys) h =
    rw (row_is names right_sides ranges x y h.0, rows_are names right_sides ranges xs ys h.1) refl

-- ---- faults of columns

above_same : (default : ℤ) (marked : Bool) (lines : List BoundLine)
    → whole_fault default marked lines ≡ bounds_fault default (bounds_for marked lines)
above_same default marked [] = refl
above_same default marked (x ∷ lines) = refl

columns_same : (default : ℤ) (columns bounds : List (List Bytes)) (from : ℕ) (names : List Bytes)
    → columns_fault default columns bounds from names
    ≡ bounds_faults default from (bounds_of (λ c. is_marked c columns) bounds names)
unfolding columns_fault bounds_faults
columns_same default columns bounds from [] = refl
columns_same default columns bounds from (name ∷ names) =
    rw (
      above_same default (is_marked name columns) (bounds_on name bounds),
      columns_same default columns bounds (from + 1) names,
    ) refl

upper_same : (default : ℤ) (marked : Bool) (lines : List BoundLine)
    → upper_in default (bounds_for marked lines) ≡ upper_of default lines
upper_same default marked [] = refl
upper_same default marked (x ∷ lines) = refl

-- ---- columns

entries_are : (head : ℤ) (numbers : List ℤ) (rows : ℕ) → rows ≡ length numbers
    → raw_entries (head ∷ numbers) rows ≡ nonzero_of numbers
entries_are head numbers rows size =
    let count = length-map-range_with_len (entry_at (head ∷ numbers)) 0 rows in
    let places = length-enumerate_from 0 numbers in
    ap (filter (λ (entry : ℕ × ℤ). not (is_zero entry.1)))
    (ext_get_or (0, pos 0) (map (entry_at (head ∷ numbers)) (range_with_len 0 rows)) (enumerate_from 0 numbers)
    (count ∙ size ∙ sym places)
    (λ k lt.
    get_or-map-range_with_len (entry_at (head ∷ numbers)) 0 rows k k (0, pos 0) (omega (arith, lt, count)) (omega arith)
    ∙ ap (λ (i : ℕ). (k, get_or (head ∷ numbers) i (pos 0))) (add-one k)
    ∙ sym (get_or-enumerate_from 0 numbers k (0, pos 0) (omega (arith, lt, count, size))
    ∙ ap (λ (n : ℕ). (n, get_or numbers k (pos 0))) (zero-add k))))

pub zip_from : {A B : Type 0} (R : A → B → Type 0) (xs : List A) (ys : List B) → length xs ≡ length ys
    → ((k : ℕ) (d : A) (e : B) → k < length xs → R (get_or xs k d) (get_or ys k e)) → AllZip R xs ys
zip_from R [] [] size h = tt
zip_from R [] (y ∷ ys) size h = absurd (omega arith)
zip_from R (x ∷ xs) [] size h = absurd (omega arith)
zip_from R (x ∷ xs) (y ∷ ys) size h =
    (h 0 x y (omega arith), zip_from R xs ys (omega arith) (λ k d e lt. h (suc k) d e (omega arith)))

some_cost : (pairs : List (Bytes × Bytes)) (objective : Option Bytes) (o : Bytes) → objective ≡ Some o
    → Some (option_map_or (coefficient pairs) objective (pos 0)) ≡ option_map (coefficient pairs) objective
some_cost pairs None o e = absurd cc
some_cost pairs (Some x) o e = refl

module _ (default : ℤ) (lines : List Bytes) (state : State) (rows : RowsHold (under Rows lines) state.rows)
    (columns : ColumnsHold (under Rows lines) (under Columns lines) (under Bounds lines) state.rows state.columns)
    (objective : Bytes) (first : objective_of (under Rows lines) ≡ Some objective)
    (faultless : bounds_faults default 0 state.columns.bounds ≡ None) where
  abbrev on : Bytes → List (Bytes × Bytes)
  on name = pairs_on name (under Columns lines)

  bounds_there : (k : ℕ) → k < length state.columns.names → (name : Bytes) → get_or state.columns.names k [] ≡ name
      → get_or state.columns.bounds k (no_bounds false)
      ≡ bounds_for (is_marked name (under Columns lines)) (bounds_on name (under Bounds lines))
  bounds_there k lt name at =
      ap (λ (bs : List BoundList). get_or bs k (no_bounds false)) columns.bounds
      ∙ table_at (λ c. bounds_for (is_marked c (under Columns lines)) (bounds_on c (under Bounds lines)))
      state.columns.names k name (no_bounds false) (record { within = lt; is = at })

  numbers_there : (k : ℕ) → k < length state.columns.names → (name : Bytes) → get_or state.columns.names k [] ≡ name
      → get_or state.columns.numbers k [] ≡ numbers_for (under Rows lines) (on name)
  numbers_there k lt name at =
      ap (λ (ns : List (List ℤ)). get_or ns k []) columns.numbers
      ∙ table_at (λ c. numbers_for (under Rows lines) (on c)) state.columns.names k name []
      (record { within = lt; is = at })

  bound_count : length state.columns.bounds ≡ length state.columns.names
  bound_count = ap length columns.bounds
      ∙ length-map state.columns.names
      (λ c. bounds_for (is_marked c (under Columns lines)) (bounds_on c (under Bounds lines)))

  row_count : length state.rows.bounded ≡ length (map (coefficient []) (row_names (bounded_rows (under Rows lines))))
  row_count =
      sym (length-map (row_names (bounded_rows (under Rows lines))) (coefficient [])
      ∙ length-map (bounded_rows (under Rows lines)) (field 1)
      ∙ zip_length (IsBounded state.rows.names) (bounded_rows (under Rows lines)) state.rows.bounded rows.bounded)

  column_is : (k : ℕ) → k < length state.columns.names → (name : Bytes) → get_or state.columns.names k [] ≡ name
      → IsColumnOf default lines name (column_at default (length state.rows.bounded) state.columns k)
  column_is k lt name at =
      let b = bounds_there k lt name at in
      let two = faultless_ordered default (get_or state.columns.bounds k (no_bounds false))
      (faultless_at default 0 state.columns.bounds k faultless (omega (arith, lt, bound_count))) in
      let n = numbers_there k lt name at in
      let upper : upper_in default (get_or state.columns.bounds k (no_bounds false))
      ≡ upper_of default (bounds_on name (under Bounds lines)) =
      ap (upper_in default) b
      ∙ upper_same default (is_marked name (under Columns lines)) (bounds_on name (under Bounds lines)) in
      let size : length state.rows.bounded
      ≡ length (map (coefficient (on name)) (row_names (bounded_rows (under Rows lines)))) =
      row_count ∙ length-map (row_names (bounded_rows (under Rows lines))) (coefficient [])
      ∙ sym (length-map (row_names (bounded_rows (under Rows lines))) (coefficient (on name))) in
      record {
        named = at;
        lower = ap (λ (o : Option ℤ). Some (unwrap_or o (pos 0))) two.lower_is ∙ sym two.lower_is
            ∙ ap (λ (bounds : BoundList). bounds.lower) b;
        upper = ap (λ (o : Option ℤ). Some (unwrap_or o (pos 0))) two.upper_is ∙ sym two.upper_is ∙ upper;
        cost = ap (λ (ns : List ℤ). Some (get_or ns 0 (pos 0))) n
            ∙ some_cost (on name) (objective_of (under Rows lines)) objective first;
        entries = ap (λ (ns : List ℤ). raw_entries ns (length state.rows.bounded)) n
            ∙ entries_are (option_map_or (coefficient (on name)) (objective_of (under Rows lines)) (pos 0))
            (map (coefficient (on name)) (row_names (bounded_rows (under Rows lines))))
            (length state.rows.bounded) size;
      }

  pub columns_are : AllZip (IsColumnOf default lines) (columns_of (under Columns lines))
      (raw_columns default (length state.rows.bounded) state.columns)
  columns_are =
      let f = column_at default (length state.rows.bounded) state.columns in
      let count = length-map-range_with_len f 0 (length state.columns.names) in
      subst (λ (ns : List Bytes). AllZip (IsColumnOf default lines) ns
      (raw_columns default (length state.rows.bounded) state.columns)) columns.names
      (zip_from (IsColumnOf default lines) state.columns.names
      (raw_columns default (length state.rows.bounded) state.columns) (sym count)
      (λ k d e lt. rw (get_or-map-range_with_len f 0 (length state.columns.names) k k e lt (omega arith))
      (column_is k lt (get_or state.columns.names k d) (get_or_default state.columns.names k [] d lt))))

-- ---- the lines before ENDATA

-- a line that is ENDATA
record IsEnd (line : Bytes) : Type 0 where
  full : is_skipped line ≡ false
  begins : begins_section line ≡ true
  named : section_named (field 0 (fields_of line)) ≡ Some End

end_named : (named : Option Section) → is_in End named ≡ true → named ≡ Some End
end_named None e = absurd (false≢true e)
end_named (Some Name) e = absurd (false≢true e)
end_named (Some ObjSense) e = absurd (false≢true e)
end_named (Some Rows) e = absurd (false≢true e)
end_named (Some Columns) e = absurd (false≢true e)
end_named (Some RightSides) e = absurd (false≢true e)
end_named (Some Ranges) e = absurd (false≢true e)
end_named (Some Bounds) e = absurd (false≢true e)
end_named (Some End) e = refl

end_by : (skipped begins : Bool) (named : Option Section) → is_in End (cond (not skipped && begins) named None) ≡ true
    → (skipped ≡ false) × (begins ≡ true) × (named ≡ Some End)
end_by true begins named e = absurd (false≢true e)
end_by false true named e = (refl, refl, end_named named e)
end_by false false named e = absurd (false≢true e)

end_is : (line : Bytes) → is_end line ≡ true → IsEnd line
end_is line e =
    let parts = end_by (is_skipped line) (begins_section line) (section_named (field 0 (fields_of line))) e in
    record { full = parts.0; begins = parts.1; named = parts.2 }

-- the lines with ENDATA have the same parts
ended : (lines : List Bytes) (end : Bytes) → is_end end ≡ true
    → parts_of (lines ++ end ∷ []) ≡ heading_added (parts_of lines) End (fields_of end)
ended lines end e = let is = end_is end e in
    parts-push lines end ∙ pushed_heading (parts_of lines) end End is.full is.begins is.named

-- what was read of a whole text
record IsWhole (lines : List Bytes) (state : State) : Type 0 where
  sense : unwrap_or state.sense false ≡ list_any is_maximum (senses_of lines)
  rows : RowsHold (under Rows lines) state.rows
  columns : ColumnsHold (under Rows lines) (under Columns lines) (under Bounds lines) state.rows state.columns
  right_sides : state.right_sides ≡ numbers_of state.rows.names (all_pairs (under RightSides lines))
  ranges : state.ranges ≡ numbers_of state.rows.names (all_pairs (under Ranges lines))

whole : (lines : List Bytes) (state : State) → Left lines state → IsWhole lines state
whole lines state left =
    let h : Holds (heading_added (parts_of lines) End (fields_of left.end)) state =
    subst (λ (p : LineParts). Holds p state) (ended lines left.end left.is_end) left.holds in
    record {
      sense = h.sense.maximum ∙ ap (list_any is_maximum) (append-nil (senses_of lines));
      rows = h.rows;
      columns = h.columns;
      right_sides = h.right_sides;
      ranges = h.ranges;
    }

-- ---- a whole text

-- what is read of a text is what it says, or its first fault
abbrev pub IsExact : ℤ → List ℕ → Result RawMps MpsFault → Type 0
IsExact default text (Ok mps) = Reads default text mps
IsExact default text (Err fault) = first_fault default text ≡ Some fault

-- the fault of the lines that were read
fault_same : (default : ℤ) (lines : List Bytes) (state : State) → IsWhole lines state → (place : ℕ)
    → state.rows.objective ≡ Some place → model_fault default lines ≡ bounds_faults default 0 state.columns.bounds
fault_same default lines state w place p =
    let first : objective_of (under Rows lines) ≡ Some (get_or state.rows.names place []) =
    w.rows.objective ∙ ap (option_map (λ k. get_or state.rows.names k [])) p in
    rw first (columns_same default (under Columns lines) (under Bounds lines) 0 (columns_of (under Columns lines))
    ∙ ap (λ (ns : List Bytes). bounds_faults default 0
    (bounds_of (λ c. is_marked c (under Columns lines)) (under Bounds lines) ns)) (sym w.columns.names)
    ∙ ap (bounds_faults default 0) (sym w.columns.bounds))

says : (default : ℤ) (lines : List Bytes) (state : State) → IsWhole lines state → (place : ℕ)
    → state.rows.objective ≡ Some place → bounds_faults default 0 state.columns.bounds ≡ None
    → Says default lines (model_of default state place)
says default lines state w place p faultless =
    let first : objective_of (under Rows lines) ≡ Some (get_or state.rows.names place []) =
    w.rows.objective ∙ ap (option_map (λ k. get_or state.rows.names k [])) p in
    record {
      sense = w.sense;
      objective = sym first;
      rows = ap (λ (ns : List (Option ℤ)). raw_rows state.rows ns state.ranges) w.right_sides
          ∙ ap (λ (ns : List (Option ℤ)). raw_rows state.rows
          (numbers_of state.rows.names (all_pairs (under RightSides lines))) ns) w.ranges
          ∙ rows_are state.rows.names (all_pairs (under RightSides lines)) (all_pairs (under Ranges lines))
          (bounded_rows (under Rows lines)) state.rows.bounded w.rows.bounded;
      columns = columns_are default lines state w.rows w.columns (get_or state.rows.names place []) first faultless;
    }

-- what the first fault is, where the lines have none
none_before : (default : ℤ) (text : List ℕ) → nat_lt MAX_TEXT_BYTES (length text) ≡ false
    → lines_fault [] (lines_of text) ≡ None
    → first_fault default text ≡ model_fault default (lines_read (lines_of text))
unfolding first_fault
none_before default text short none = rw (short, none) refl

fault_before : (default : ℤ) (text : List ℕ) (fault : MpsFault) → nat_lt MAX_TEXT_BYTES (length text) ≡ false
    → lines_fault [] (lines_of text) ≡ Some fault → first_fault default text ≡ Some fault
unfolding first_fault
fault_before default text fault short some = rw (short, some) refl

model_exact : (default : ℤ) (text : List ℕ) (state : State) → nat_lt MAX_TEXT_BYTES (length text) ≡ false
    → lines_fault [] (lines_of text) ≡ None → IsWhole (lines_read (lines_of text)) state
    → (place : Option ℕ) → state.rows.objective ≡ place → (fault : Option MpsFault)
    → bounds_faults default 0 state.columns.bounds ≡ fault
    → IsExact default text (model_at default state place fault)
model_exact default text state short none w None p fault f =
    let absent : objective_of (under Rows (lines_read (lines_of text))) ≡ None =
    w.rows.objective ∙ ap (option_map (λ k. get_or state.rows.names k [])) p in
    none_before default text short none ∙ rw absent refl
model_exact default text state short none w (Some place) p (Some fault) f =
    none_before default text short none ∙ fault_same default (lines_read (lines_of text)) state w place p ∙ f
model_exact default text state short none w (Some place) p None f = record {
  faultless = none_before default text short none ∙ fault_same default (lines_read (lines_of text)) state w place p ∙ f;
  says = says default (lines_read (lines_of text)) state w place p f;
}

behind_exact : (default : ℤ) (text : List ℕ) (fault : Option MpsFault) (read : Result State MpsFault)
    → nat_lt MAX_TEXT_BYTES (length text) ≡ false → lines_fault [] (lines_of text) ≡ fault
    → Finds (lines_read (lines_of text)) fault read → IsExact default text (model_behind default read)
unfolding model_read
behind_exact default text (Some fault) read short e f = rw f (fault_before default text fault short e)
behind_exact default text None read short e f =
    rw (f.1) (model_exact default text f.0 short e (whole (lines_read (lines_of text)) f.0 f.2) f.0.rows.objective refl
    (bounds_faults default 0 f.0.columns.bounds) refl)

too_long : (default : ℤ) (text : List ℕ) → nat_lt MAX_TEXT_BYTES (length text) ≡ true
    → first_fault default text ≡ Some (at_line 0 rules.TooLong)
unfolding first_fault
too_long default text long = rw long refl

exact_by : (default : ℤ) (text : List ℕ) (long : Bool) → nat_lt MAX_TEXT_BYTES (length text) ≡ long
    → IsExact default text
    (cond long (Err (at_line 0 rules.TooLong)) (model_behind default (text_read 0 no_state (lines_of text))))
exact_by default text true e = too_long default text e
exact_by default text false e =
    behind_exact default text (lines_fault [] (lines_of text)) (text_read 0 no_state (lines_of text)) e refl
    (text_finds (lines_of text))

-- What is read of a text is exactly what it says, or its first fault.
pub read_exact : (default : ℤ) (text : List ℕ) → IsExact default text (mps_read default text)
unfolding mps_read
read_exact default text = exact_by default text (nat_lt MAX_TEXT_BYTES (length text)) refl
