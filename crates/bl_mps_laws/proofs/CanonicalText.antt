-- The canonical text of a model, token by token.
use Rattle.std.proofs.Common.{◌≡◌, ℕ, zero, suc, Bool, true, false, List, [], ◌∷◌, ◌++◌, map}
use Rattle.std.proofs.Common.{Option, Some, None, ℤ, pos, negsuc, refl, sym, ap, ◌∙◌, arith, codes}
use Rattle.std.proofs.Common.{append_assoc}
use Rattle.std.specs.List.{flat_map}
use Rattle.std.specs.Ordering.{int_eq}
use Rattle.std.proofs.lemmas.Bool.Decides.{Decides-int_eq}
use Rattle.std.proofs.lemmas.Grind.{flat_map-append}
use Rattle.std.proofs.lemmas.Int.{ints}
use Rattle.bl_raw.specs.declared.raw.RawRow.{RawRow}
use Rattle.bl_raw.specs.declared.raw.RawColumn.{RawColumn}
use Rattle.bl_raw.specs.declared.raw.RawMps.{RawMps}
use Rattle.bl_mps_terms.specs.declared.words.Section.{Section}
use Rattle.bl_mps_terms.specs.declared.words.Section.TheVariants.{Name, ObjSense, Rows, Columns, RightSides, Ranges}
use Rattle.bl_mps_terms.specs.declared.words.Section.TheVariants.{Bounds, End}
use Rattle.bl_mps_terms.specs.Words.{Bytes}
use Rattle.bl_mps_terms.specs.Rules.{is_zero}
use Rattle.bl_mps_write.specs.Canonical.{word_line, number_line, letter_of, form_of, sense_lines, row_lines, name_at}
use Rattle.bl_mps_write.specs.Canonical.{coefficient_lines, cost_and_coefficients, column_lines, nonzero_line}
use Rattle.bl_mps_write.specs.Canonical.{rhs_lines, range_line, range_lines, bound_lines, mps_text}
use Rattle.bl_mps.proofs.Names.{bool_false}
use Rattle.bl_mps_laws.proofs.BoundLines.{bound_data}
use Rattle.bl_mps_laws.proofs.ColumnLines.{ColumnText, pairs_in, lines_for, all_lines, column_data}
use Rattle.bl_mps_laws.proofs.PairLines.{set_data}
use Rattle.bl_mps_laws.proofs.RowLines.{row_data, row_fields}
use Rattle.bl_mps_laws.proofs.Sayable.{names_of}
use Rattle.bl_mps_laws.proofs.Tables.{given, unless_zero}
use Rattle.bl_mps_laws.proofs.Tokens.{Token, Begin, Fields, text_of, spaced_line}

-- ---- what stands under each section

abbrev pub right_sides_of : List RawRow → List (Option ℤ)
right_sides_of rows = map (λ row. unless_zero (form_of row).rhs) rows

abbrev pub ranges_of : List RawRow → List (Option ℤ)
ranges_of rows = map (λ row. (form_of row).range) rows

abbrev pub entry_pairs : List RawRow → List (ℕ × ℤ) → List (Bytes × ℤ)
entry_pairs rows entries = map (λ e. (name_at rows e.0, e.1)) entries

-- a column with its cost and its entries
abbrev pub column_text : Bytes → List RawRow → RawColumn → ColumnText
column_text objective rows column = record {
  name = column.name;
  first = (objective, column.cost);
  more = entry_pairs rows column.entries;
}

abbrev pub column_texts : RawMps → List ColumnText
column_texts mps = map (column_text mps.objective mps.rows) mps.columns

abbrev pub right_side_data : List RawRow → List (List Bytes)
right_side_data rows = set_data (codes "RHS") (given (names_of rows) (right_sides_of rows))

abbrev pub range_data : List RawRow → List (List Bytes)
range_data rows = set_data (codes "RANGE") (given (names_of rows) (ranges_of rows))

abbrev pub section_tokens : Section → List (List Bytes) → List Token
section_tokens section lines = Begin section ∷ map Fields lines

abbrev pub sense_tokens : Bool → List Token
sense_tokens true = section_tokens ObjSense ((codes "MAX" ∷ []) ∷ [])
sense_tokens false = []

-- the lines before ENDATA
unfoldable pub tokens_of : RawMps → List Token
tokens_of mps =
    Begin Name ∷ (sense_tokens mps.maximise ++ (section_tokens Rows (row_data mps.objective mps.rows)
    ++ (section_tokens Columns (column_data (column_texts mps))
    ++ (section_tokens RightSides (right_side_data mps.rows) ++ (section_tokens Ranges (range_data mps.rows)
    ++ section_tokens Bounds (bound_data mps.columns))))))

-- ---- the text of each section

fields_text : (lines : List (List Bytes)) → flat_map text_of (map Fields lines) ≡ flat_map spaced_line lines
fields_text [] = refl
fields_text (line ∷ lines) = ap (λ (t : Bytes). spaced_line line ++ t) (fields_text lines)

rows_text : (rows : List RawRow) → flat_map spaced_line (map row_fields rows) ≡ row_lines rows
rows_text [] = refl
rows_text (row ∷ rows) = ap (λ (t : Bytes). word_line (letter_of (form_of row).kind) row.name ++ t) (rows_text rows)

entries_text : (name : Bytes) (rows : List RawRow) (entries : List (ℕ × ℤ))
    → flat_map spaced_line (lines_for name (entry_pairs rows entries)) ≡ coefficient_lines rows name entries
entries_text name rows [] = refl
entries_text name rows (e ∷ entries) =
    ap (λ (t : Bytes). number_line name (name_at rows e.0) e.1 ++ t) (entries_text name rows entries)

one_text : (objective : Bytes) (rows : List RawRow) (column : RawColumn)
    → flat_map spaced_line (lines_for column.name (pairs_in (column_text objective rows column)))
    ≡ cost_and_coefficients objective rows column
one_text objective rows column =
    ap (λ (t : Bytes). number_line column.name objective column.cost ++ t)
    (entries_text column.name rows column.entries)

columns_text : (objective : Bytes) (rows : List RawRow) (columns : List RawColumn)
    → flat_map spaced_line (all_lines (map (column_text objective rows) columns))
    ≡ column_lines objective rows columns
columns_text objective rows [] = refl
columns_text objective rows (column ∷ columns) =
    flat_map-append spaced_line (lines_for column.name (pairs_in (column_text objective rows column)))
    (all_lines (map (column_text objective rows) columns))
    ∙ ap (λ (t : Bytes). t ++ flat_map spaced_line (all_lines (map (column_text objective rows) columns)))
    (one_text objective rows column)
    ∙ ap (λ (t : Bytes). cost_and_coefficients objective rows column ++ t) (columns_text objective rows columns)

zero_same : (z : ℤ) → int_eq z (pos 0) ≡ is_zero z
zero_same (pos zero) = refl
zero_same (pos (suc n)) =
    bool_false (int_eq (pos (suc n)) (pos 0))
    (λ e. let same : pos (suc n) ≡ pos 0 = (Decides-int_eq (pos (suc n)) (pos 0)).0 e in omega (arith, ints))
zero_same (negsuc n) = refl

right_side_by : (name : Bytes) (z : ℤ) (names : List Bytes) (numbers : List (Option ℤ)) (text : Bytes) (zero : Bool)
    → is_zero z ≡ zero → flat_map spaced_line (set_data (codes "RHS") (given names numbers)) ≡ text
    → flat_map spaced_line (set_data (codes "RHS") (given (name ∷ names) (unless_zero z ∷ numbers)))
    ≡ nonzero_line name z ++ text
right_side_by name z names numbers text true e h = rw (e, zero_same z ∙ e) h
right_side_by name z names numbers text false e h =
    rw (e, zero_same z ∙ e) (ap (λ (t : Bytes). number_line (codes "RHS") name z ++ t) h)

right_sides_text : (rows : List RawRow) → flat_map spaced_line (right_side_data rows) ≡ rhs_lines rows
right_sides_text [] = refl
right_sides_text (row ∷ rows) =
    right_side_by row.name (form_of row).rhs (names_of rows) (right_sides_of rows) (rhs_lines rows)
    (is_zero (form_of row).rhs) refl (right_sides_text rows)

range_by : (name : Bytes) (range : Option ℤ) (names : List Bytes) (numbers : List (Option ℤ)) (text : Bytes)
    → flat_map spaced_line (set_data (codes "RANGE") (given names numbers)) ≡ text
    → flat_map spaced_line (set_data (codes "RANGE") (given (name ∷ names) (range ∷ numbers)))
    ≡ range_line name range ++ text
range_by name None names numbers text h = h
range_by name (Some z) names numbers text h = ap (λ (t : Bytes). number_line (codes "RANGE") name z ++ t) h

ranges_text : (rows : List RawRow) → flat_map spaced_line (range_data rows) ≡ range_lines rows
ranges_text [] = refl
ranges_text (row ∷ rows) =
    range_by row.name (form_of row).range (names_of rows) (ranges_of rows) (range_lines rows) (ranges_text rows)

bounds_text : (columns : List RawColumn) → flat_map spaced_line (bound_data columns) ≡ bound_lines columns
bounds_text [] = refl
bounds_text (column ∷ columns) =
    ap (λ (t : Bytes). number_line (codes "LO BND") column.name column.lo
    ++ (number_line (codes "UP BND") column.name column.hi ++ t)) (bounds_text columns)
    ∙ sym (append_assoc (number_line (codes "LO BND") column.name column.lo)
    (number_line (codes "UP BND") column.name column.hi) (bound_lines columns))

-- ---- the whole text

-- the tokens have this text
record HasText (tokens : List Token) (text : Bytes) : Type 0 where
  is : flat_map text_of tokens ≡ text

sense_text : (maximise : Bool) → HasText (sense_tokens maximise) (sense_lines maximise)
sense_text true = record { is = refl }
sense_text false = record { is = refl }

section_text : (section : Section) (lines : List (List Bytes)) (text : Bytes) → flat_map spaced_line lines ≡ text
    → HasText (section_tokens section lines) (text_of (Begin section) ++ text)
section_text section lines text e =
    record { is = ap (λ (t : Bytes). text_of (Begin section) ++ t) (fields_text lines ∙ e) }

text_with : {xs ys : List Token} {a b : Bytes} → HasText xs a → HasText ys b → HasText (xs ++ ys) (a ++ b)
text_with {xs} {ys} {a} {b} h k = record { is = flat_map-append text_of xs ys ∙ rw (h.is, k.is) refl }

first_text : (token : Token) {tokens : List Token} {text : Bytes} → HasText tokens text
    → HasText (token ∷ tokens) (text_of token ++ text)
first_text token {tokens} {text} h = record { is = ap (λ (t : Bytes). text_of token ++ t) h.is }

markers_text : (objective : Bytes) (rows : List RawRow) (columns : List RawColumn)
    → flat_map spaced_line (column_data (map (column_text objective rows) columns))
    ≡ codes " MARKER 'MARKER' 'INTORG'\n" ++ (column_lines objective rows columns
    ++ codes " MARKER 'MARKER' 'INTEND'\n")
markers_text objective rows columns =
    ap (λ (t : Bytes). codes " MARKER 'MARKER' 'INTORG'\n" ++ t)
    (flat_map-append spaced_line (all_lines (map (column_text objective rows) columns)) _
    ∙ ap (λ (t : Bytes). t ++ codes " MARKER 'MARKER' 'INTEND'\n") (columns_text objective rows columns))

regrouped : (n s r w rs c b cs e h hs g gs o os d : Bytes)
    → n ++ s ++ r ++ w ++ rs ++ (c ++ b) ++ cs ++ (e ++ h) ++ hs ++ g ++ gs ++ o ++ os ++ d
    ≡ (n ++ (s ++ ((r ++ (w ++ rs)) ++ ((c ++ (b ++ (cs ++ e))) ++ ((h ++ hs) ++ ((g ++ gs) ++ (o ++ os))))))) ++ d
regrouped n s r w rs c b cs e h hs g gs o os d = simp append_assoc

-- The canonical text is the text of its tokens and ENDATA.
pub canonical_text : (mps : RawMps) → mps_text mps ≡ flat_map text_of (tokens_of mps ++ Begin End ∷ [])
unfolding mps_text tokens_of
canonical_text mps =
    let rows = section_text Rows (row_data mps.objective mps.rows)
    (word_line (codes "N") mps.objective ++ row_lines mps.rows)
    (ap (λ (t : Bytes). word_line (codes "N") mps.objective ++ t) (rows_text mps.rows)) in
    let columns = section_text Columns (column_data (column_texts mps))
    (codes " MARKER 'MARKER' 'INTORG'\n" ++ (column_lines mps.objective mps.rows mps.columns
    ++ codes " MARKER 'MARKER' 'INTEND'\n")) (markers_text mps.objective mps.rows mps.columns) in
    let right_sides = section_text RightSides (right_side_data mps.rows) (rhs_lines mps.rows)
    (right_sides_text mps.rows) in
    let ranges = section_text Ranges (range_data mps.rows) (range_lines mps.rows) (ranges_text mps.rows) in
    let bounds = section_text Bounds (bound_data mps.columns) (bound_lines mps.columns) (bounds_text mps.columns) in
    let end : HasText (Begin End ∷ []) (codes "ENDATA\n") = record { is = refl } in
    regrouped (codes "NAME\n") (sense_lines mps.maximise) (codes "ROWS\n") (word_line (codes "N") mps.objective)
    (row_lines mps.rows) (codes "COLUMNS\n") (codes " MARKER 'MARKER' 'INTORG'\n")
    (column_lines mps.objective mps.rows mps.columns) (codes " MARKER 'MARKER' 'INTEND'\n") (codes "RHS\n")
    (rhs_lines mps.rows) (codes "RANGES\n") (range_lines mps.rows) (codes "BOUNDS\n") (bound_lines mps.columns)
    (codes "ENDATA\n")
    ∙ sym ((text_with (first_text (Begin Name) (text_with (sense_text mps.maximise) (text_with rows
    (text_with columns (text_with right_sides (text_with ranges bounds)))))) end).is)
