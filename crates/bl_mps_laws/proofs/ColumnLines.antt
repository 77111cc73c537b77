-- The lines under COLUMNS of a canonical text break no rule.
use Rattle.std.proofs.Common.{◌≡◌, ◌+◌, ◌-◌, ◌<◌, ◌≤◌, Bool, false, cond, List, [], ◌∷◌, ◌++◌, map}
use Rattle.std.proofs.Common.{length, None, ℤ, refl, sym, ap, subst, ◌∙◌, arith, codes}
use Rattle.std.proofs.Common.{append_assoc, fold, rules}
use Rattle.std.specs.Fmt.{signed_decimal}
use Rattle.std.specs.List.{flat_map, AllByRecursion}
use Rattle.std.specs.Str.{bytes_eq}
use Rattle.std.proofs.Math.Seq.{take-append_seam}
use Rattle.std.proofs.lemmas.Bool.{lt-ltb}
use Rattle.std.proofs.lemmas.List.{map_push, append-nil, length_push}
use Rattle.bl_limits.specs.declared.TheConstants.{MAX_COLUMNS, MAX_NUMBER}
use Rattle.bl_mps_terms.specs.Words.{Bytes}
use Rattle.bl_mps_terms.specs.Parts.{field}
use Rattle.bl_mps_terms.specs.Rules.{is_named}
use Rattle.bl_mps_terms.specs.Lines.{row_names, names_in, columns_of, appended, pairs_on, name_fault}
use Rattle.bl_mps_terms.specs.Lines.{column_fault}
use Rattle.bl_mps.proofs.ColumnNames.{columns_of-push, column_lines-marker, pairs_on-push, pairs_on-none, pairs_of}
use Rattle.bl_mps.proofs.Names.{IsFresh, same_true}
use Rattle.bl_mps_laws.proofs.Fresh.{fresh_before, unnamed_take, named_last}
use Rattle.bl_mps_laws.proofs.PairLines.{IsGoodPair, pair_fine, number_text}
use Rattle.bl_mps_laws.proofs.Tables.{texts}
use Rattle.bl_mps_laws.proofs.Tokens.{IsWord}
use Rattle.bl_mps_laws.proofs.Walks.{EachFine, fine_on}

-- a column and its pairs, at least one
pub record ColumnText : Type 0 where
  pub name : Bytes
  pub first : Bytes × ℤ
  pub more : List (Bytes × ℤ)

abbrev pub pairs_in : ColumnText → List (Bytes × ℤ)
pairs_in column = column.first ∷ column.more

abbrev pub column_fields : Bytes → Bytes × ℤ → List Bytes
column_fields name pair = name ∷ pair.0 ∷ signed_decimal pair.1 ∷ []

-- a line for each pair
abbrev pub lines_for : Bytes → List (Bytes × ℤ) → List (List Bytes)
lines_for name pairs = map (column_fields name) pairs

abbrev pub all_lines : List ColumnText → List (List Bytes)
all_lines columns = flat_map (λ column. lines_for column.name (pairs_in column)) columns

abbrev pub marker_fields : Bytes → List Bytes
marker_fields word = codes "MARKER" ∷ codes "'MARKER'" ∷ word ∷ []

-- the lines under COLUMNS
abbrev pub column_data : List ColumnText → List (List Bytes)
column_data columns =
    marker_fields (codes "'INTORG'") ∷ (all_lines columns ++ marker_fields (codes "'INTEND'") ∷ [])

abbrev pub names_for : List ColumnText → List Bytes
names_for columns = map (λ column. column.name) columns

-- a pair of a row other than a marker's word
pub record IsColumnPair (rows : List Bytes) (pair : Bytes × ℤ) : Type 0 where
  pub good : IsGoodPair rows MAX_NUMBER None pair
  pub apart : bytes_eq pair.0 (codes "'MARKER'") ≡ false

pub record IsColumnText (rows : List Bytes) (column : ColumnText) : Type 0 where
  pub word : IsWord column.name
  pub pairs : AllByRecursion (IsColumnPair rows) (pairs_in column)
  pub distinct : IsFresh (names_in (texts (pairs_in column)))

-- ---- the name of a column

new_name : (names : List Bytes) (name : Bytes) → is_named names name ≡ false → length names < MAX_COLUMNS
    → name_fault names name ≡ None
new_name names name fresh room =
    rw (unnamed_take (length names - 1) names name fresh, fresh, lt-ltb (length names) MAX_COLUMNS room) refl

last_name : (names : List Bytes) (name : Bytes) → is_named names name ≡ false
    → name_fault (names ++ name ∷ []) name ≡ None
last_name names name fresh =
    let size : length (names ++ name ∷ []) - 1 ≡ length names = omega (arith, length_push names name) in
    rw (size, take-append_seam names (name ∷ []), fresh, named_last names name) refl

-- ---- one line

module _ (rows : List (List Bytes)) where
  column_fine : (before : List (List Bytes)) (name : Bytes) (pair : Bytes × ℤ) → IsColumnPair (row_names rows) pair
      → name_fault (columns_of before) name ≡ None → is_named (names_in (pairs_on name before)) pair.0 ≡ false
      → column_fault rows before (column_fields name pair) ≡ None
  column_fine before name pair h n fresh =
      rw (
        h.apart,
        n,
        pair_fine (row_names rows) MAX_NUMBER None (names_in (pairs_on name before)) pair (omega arith) h.good fresh,
      ) refl

  fields_words : (name : Bytes) (pair : Bytes × ℤ) → IsWord name → IsColumnPair (row_names rows) pair
      → AllByRecursion IsWord (column_fields name pair)
  fields_words name pair w h =
      (w, (h.good.word, (number_text (row_names rows) MAX_NUMBER None pair (omega arith) h.good, tt)))

  columns_new : (before : List (List Bytes)) (name : Bytes) (pair : Bytes × ℤ) (names : List Bytes)
      → IsColumnPair (row_names rows) pair → columns_of before ≡ names → is_named names name ≡ false
      → columns_of (before ++ column_fields name pair ∷ []) ≡ names ++ name ∷ []
  columns_new before name pair names h are fresh =
      columns_of-push before (column_fields name pair) h.apart ∙ ap (λ (ns : List Bytes). appended ns name) are
      ∙ rw fresh refl

  columns_last : (before : List (List Bytes)) (name : Bytes) (pair : Bytes × ℤ) (names : List Bytes)
      → IsColumnPair (row_names rows) pair → columns_of before ≡ names ++ name ∷ []
      → columns_of (before ++ column_fields name pair ∷ []) ≡ names ++ name ∷ []
  columns_last before name pair names h are =
      columns_of-push before (column_fields name pair) h.apart ∙ ap (λ (ns : List Bytes). appended ns name) are
      ∙ rw (named_last names name) refl

  pairs_push : (before : List (List Bytes)) (name : Bytes) (pair : Bytes × ℤ) → IsColumnPair (row_names rows) pair
      → names_in (pairs_on name (before ++ column_fields name pair ∷ []))
      ≡ names_in (pairs_on name before) ++ pair.0 ∷ []
  pairs_push before name pair h =
      ap names_in (pairs_on-push name before (column_fields name pair) h.apart
      ∙ ap (λ (t : Bool). pairs_on name before ++ cond t (pairs_of (column_fields name pair)) [])
      (same_true name name refl))
      ∙ map_push (λ (p : Bytes × Bytes). p.0) (pairs_on name before) (pair.0, signed_decimal pair.1)

  -- ---- the lines of one column

  -- behind its first line
  rest_fine : (before : List (List Bytes)) (name : Bytes) (names : List Bytes) (pairs : List (Bytes × ℤ)) → IsWord name
      → columns_of before ≡ names ++ name ∷ [] → is_named names name ≡ false
      → IsFresh (names_in (pairs_on name before) ++ names_in (texts pairs))
      → AllByRecursion (IsColumnPair (row_names rows)) pairs
      → EachFine (column_fault rows) before (lines_for name pairs)
  rest_fine before name names [] w are new fresh h = tt
  rest_fine before name names (pair ∷ pairs) w are new fresh h = (
    fields_words name pair w h.0,
    column_fine before name pair h.0 (ap (λ (ns : List Bytes). name_fault ns name) are ∙ last_name names name new)
        (fresh_before (names_in (pairs_on name before)) pair.0 (names_in (texts pairs)) fresh),
    rest_fine (before ++ column_fields name pair ∷ []) name names pairs w
        (columns_last before name pair names h.0 are) new
        (subst IsFresh (sym (ap (λ (ns : List Bytes). ns ++ names_in (texts pairs)) (pairs_push before name pair h.0)
        ∙ append_assoc (names_in (pairs_on name before)) (pair.0 ∷ []) (names_in (texts pairs)))) fresh) h.1,
  )

  one_fine : (before : List (List Bytes)) (names : List Bytes) (column : ColumnText) → columns_of before ≡ names
      → is_named names column.name ≡ false → length names < MAX_COLUMNS → IsColumnText (row_names rows) column
      → EachFine (column_fault rows) before (lines_for column.name (pairs_in column))
  one_fine before names column are new room h =
      let name = column.name in
      let pair = column.first in
      let none : names_in (pairs_on name before) ≡ [] =
      ap names_in (pairs_on-none name before (ap (λ (ns : List Bytes). is_named ns name) are ∙ new)) in
      let known : names_in (pairs_on name (before ++ column_fields name pair ∷ [])) ≡ pair.0 ∷ [] =
      pairs_push before name pair h.pairs.0 ∙ ap (λ (ns : List Bytes). ns ++ pair.0 ∷ []) none in (
        fields_words name pair h.word h.pairs.0,
        column_fine before name pair h.pairs.0
            (ap (λ (ns : List Bytes). name_fault ns name) are ∙ new_name names name new room)
            (ap (λ (ns : List Bytes). is_named ns pair.0) none),
        rest_fine (before ++ column_fields name pair ∷ []) name names column.more h.word
            (columns_new before name pair names h.pairs.0 are new) new
            (subst (λ (ns : List Bytes). IsFresh (ns ++ names_in (texts column.more))) (sym known) h.distinct)
            h.pairs.1,
      )

  rest_columns : (before : List (List Bytes)) (name : Bytes) (names : List Bytes) (pairs : List (Bytes × ℤ))
      → columns_of before ≡ names ++ name ∷ [] → AllByRecursion (IsColumnPair (row_names rows)) pairs
      → columns_of (before ++ lines_for name pairs) ≡ names ++ name ∷ []
  rest_columns before name names [] are h = ap columns_of (append-nil before) ∙ are
  rest_columns before name names (pair ∷ pairs) are h =
      ap columns_of (sym (append_assoc before (column_fields name pair ∷ []) (lines_for name pairs)))
      ∙ rest_columns (before ++ column_fields name pair ∷ []) name names pairs
      (columns_last before name pair names h.0 are) h.1

  one_columns : (before : List (List Bytes)) (names : List Bytes) (column : ColumnText) → columns_of before ≡ names
      → is_named names column.name ≡ false → IsColumnText (row_names rows) column
      → columns_of (before ++ lines_for column.name (pairs_in column)) ≡ names ++ column.name ∷ []
  one_columns before names column are new h =
      ap columns_of (sym (append_assoc before (column_fields column.name column.first ∷ [])
      (lines_for column.name column.more)))
      ∙ rest_columns (before ++ column_fields column.name column.first ∷ []) column.name names column.more
      (columns_new before column.name column.first names h.pairs.0 are new) h.pairs.1

  -- ---- the lines of all columns

  shifted : (names : List Bytes) (column : ColumnText) (columns : List ColumnText)
      → IsFresh (names ++ names_for (column ∷ columns)) → IsFresh ((names ++ column.name ∷ []) ++ names_for columns)
  shifted names column columns fresh =
      subst IsFresh (sym (append_assoc names (column.name ∷ []) (names_for columns))) fresh

  all_fine : (before : List (List Bytes)) (names : List Bytes) (columns : List ColumnText) → columns_of before ≡ names
      → IsFresh (names ++ names_for columns) → length names + length columns ≤ MAX_COLUMNS
      → AllByRecursion (IsColumnText (row_names rows)) columns
      → EachFine (column_fault rows) before (all_lines columns)
  all_fine before names [] are fresh few h = tt
  all_fine before names (column ∷ columns) are fresh few h =
      let new = fresh_before names column.name (names_for columns) fresh in
      let lines = lines_for column.name (pairs_in column) in
      fine_on (column_fault rows) before lines (all_lines columns)
      (one_fine before names column are new (omega (arith, few)) h.0)
      (all_fine (before ++ lines) (names ++ column.name ∷ []) columns (one_columns before names column are new h.0)
      (shifted names column columns fresh) (omega (arith, few, length_push names column.name)) h.1)

  all_columns : (before : List (List Bytes)) (names : List Bytes) (columns : List ColumnText)
      → columns_of before ≡ names → IsFresh (names ++ names_for columns)
      → AllByRecursion (IsColumnText (row_names rows)) columns
      → columns_of (before ++ all_lines columns) ≡ names ++ names_for columns
  all_columns before names [] are fresh h = ap columns_of (append-nil before) ∙ are ∙ sym (append-nil names)
  all_columns before names (column ∷ columns) are fresh h =
      let new = fresh_before names column.name (names_for columns) fresh in
      let lines = lines_for column.name (pairs_in column) in
      ap columns_of (sym (append_assoc before lines (all_lines columns)))
      ∙ all_columns (before ++ lines) (names ++ column.name ∷ []) columns (one_columns before names column are new h.0)
      (shifted names column columns fresh) h.1
      ∙ append_assoc names (column.name ∷ []) (names_for columns)

  -- ---- with the markers

  word_marker : IsWord (codes "MARKER")
  word_marker = record { field = search rules; line = search rules }

  word_quoted : IsWord (codes "'MARKER'")
  word_quoted = record { field = search rules; line = search rules }

  word_begin : IsWord (codes "'INTORG'")
  word_begin = record { field = search rules; line = search rules }

  word_end : IsWord (codes "'INTEND'")
  word_end = record { field = search rules; line = search rules }

  -- The lines break no rule.
  pub column_data_fine : (columns : List ColumnText) → IsFresh (names_for columns) → length columns ≤ MAX_COLUMNS
      → AllByRecursion (IsColumnText (row_names rows)) columns
      → EachFine (column_fault rows) [] (column_data columns)
  column_data_fine columns fresh few h = (
    (word_marker, (word_quoted, (word_begin, tt))),
    refl,
    fine_on (column_fault rows) (marker_fields (codes "'INTORG'") ∷ []) (all_lines columns)
        (marker_fields (codes "'INTEND'") ∷ [])
        (all_fine (marker_fields (codes "'INTORG'") ∷ []) [] columns refl fresh (omega (arith, few)) h)
        ((word_marker, (word_quoted, (word_end, tt))), refl, tt),
  )

  -- The columns that they name.
  pub column_data_names : (columns : List ColumnText) → IsFresh (names_for columns)
      → AllByRecursion (IsColumnText (row_names rows)) columns
      → columns_of (column_data columns) ≡ names_for columns
  column_data_names columns fresh h =
      let first = marker_fields (codes "'INTORG'") ∷ [] in
      let last = marker_fields (codes "'INTEND'") in
      ap (λ (ls : List (List Bytes)). fold appended [] (map (field 0) ls))
      (column_lines-marker (first ++ all_lines columns) last refl)
      ∙ all_columns first [] columns refl fresh h
