-- What the lines under COLUMNS of a canonical text say of each column.
use Rattle.std.proofs.Common.{◌≡◌, Bool, true, false, ◌||◌, List, [], ◌∷◌, ◌++◌, filter, ℤ}
use Rattle.std.proofs.Common.{refl, ap, ◌∙◌, codes, append_assoc}
use Rattle.std.proofs.lemmas.Bool.{false≢true}
use Rattle.std.specs.List.{flat_map, AllByRecursion}
use Rattle.std.specs.Str.{bytes_eq}
use Rattle.std.proofs.lemmas.Grind.{flat_map-append}
use Rattle.std.proofs.lemmas.List.{append-nil}
use Rattle.std.proofs.lemmas.List.Elements.{filter-append}
use Rattle.bl_mps_terms.specs.Words.{Bytes}
use Rattle.bl_mps_terms.specs.Parts.{field}
use Rattle.bl_mps_terms.specs.Rules.{is_named}
use Rattle.bl_mps_terms.specs.Lines.{column_lines, pairs_on, is_marked_from, is_marked}
use Rattle.bl_mps.proofs.Names.{IsFresh, or_false, same_true}
use Rattle.bl_mps.proofs.ColumnNames.{pairs_of, column_lines-marker}
use Rattle.bl_mps_laws.proofs.ColumnLines.{ColumnText, pairs_in, lines_for, all_lines, marker_fields}
use Rattle.bl_mps_laws.proofs.ColumnLines.{column_data, names_for, IsColumnPair, IsColumnText}
use Rattle.bl_mps_laws.proofs.Fresh.{differ_sym}
use Rattle.bl_mps_laws.proofs.Tables.{texts}

-- ---- the pairs of one column

-- the pairs on the lines of a column
abbrev on : Bytes → List (List Bytes) → List (Bytes × Bytes)
on name lines = flat_map pairs_of (filter (λ line. bytes_eq name (field 0 line)) lines)

on-append : (name : Bytes) (xs ys : List (List Bytes)) → on name (xs ++ ys) ≡ on name xs ++ on name ys
on-append name xs ys =
    ap (flat_map pairs_of) (filter-append (λ line. bytes_eq name (field 0 line)) xs ys)
    ∙ flat_map-append pairs_of (filter (λ line. bytes_eq name (field 0 line)) xs)
    (filter (λ line. bytes_eq name (field 0 line)) ys)

on-same : (name : Bytes) (pairs : List (Bytes × ℤ)) → on name (lines_for name pairs) ≡ texts pairs
on-same name [] = refl
on-same name (pair ∷ pairs) = rw (same_true name name refl, on-same name pairs) refl

on-other : (name other : Bytes) (pairs : List (Bytes × ℤ)) → bytes_eq name other ≡ false
    → on name (lines_for other pairs) ≡ []
on-other name other [] f = refl
on-other name other (pair ∷ pairs) f = rw f (on-other name other pairs f)

on-none : (name : Bytes) (columns : List ColumnText) → is_named (names_for columns) name ≡ false
    → on name (all_lines columns) ≡ []
on-none name [] f = refl
on-none name (column ∷ columns) f =
    let parts = or_false (bytes_eq name column.name) (is_named (names_for columns) name) f in
    on-append name (lines_for column.name (pairs_in column)) (all_lines columns)
    ∙ rw (on-other name column.name (pairs_in column) parts.0, on-none name columns parts.1) refl

-- each column has its pairs
abbrev Found : List ColumnText → List ColumnText → Type 0
Found all columns = AllByRecursion (λ column. on column.name (all_lines all) ≡ texts (pairs_in column)) columns

found_more : (first : ColumnText) (all columns : List ColumnText) → is_named (names_for columns) first.name ≡ false
    → Found all columns → Found (first ∷ all) columns
found_more first all [] f h = tt
found_more first all (column ∷ columns) f h =
    let parts = or_false (bytes_eq first.name column.name) (is_named (names_for columns) first.name) f in (
      on-append column.name (lines_for first.name (pairs_in first)) (all_lines all)
          ∙ rw (on-other column.name first.name (pairs_in first) (differ_sym first.name column.name parts.0)) h.0,
      found_more first all columns parts.1 h.1,
    )

found : (columns : List ColumnText) → IsFresh (names_for columns) → Found columns columns
found [] h = tt
found (column ∷ columns) h = (
  on-append column.name (lines_for column.name (pairs_in column)) (all_lines columns)
      ∙ rw (on-same column.name (pairs_in column), on-none column.name columns h.0)
      (append-nil (texts (pairs_in column))),
  found_more column columns columns h.0 (found columns h.1),
)

-- ---- with the markers

module _ (rows : List Bytes) where
  no_markers_in : (name : Bytes) (pairs : List (Bytes × ℤ)) (more : List (List Bytes))
      → AllByRecursion (IsColumnPair rows) pairs
      → column_lines (lines_for name pairs ++ more) ≡ lines_for name pairs ++ column_lines more
  no_markers_in name [] more h = refl
  no_markers_in name (pair ∷ pairs) more h = rw (h.0.apart, no_markers_in name pairs more h.1) refl

  no_markers : (columns : List ColumnText) → AllByRecursion (IsColumnText rows) columns
      → column_lines (all_lines columns) ≡ all_lines columns
  no_markers [] h = refl
  no_markers (column ∷ columns) h =
      no_markers_in column.name (pairs_in column) (all_lines columns) h.0.pairs
      ∙ ap (λ (ls : List (List Bytes)). lines_for column.name (pairs_in column) ++ ls) (no_markers columns h.1)

  data_lines : (columns : List ColumnText) → AllByRecursion (IsColumnText rows) columns
      → column_lines (column_data columns) ≡ all_lines columns
  data_lines columns h =
      column_lines-marker (marker_fields (codes "'INTORG'") ∷ all_lines columns) (marker_fields (codes "'INTEND'")) refl
      ∙ no_markers columns h

  -- The pairs of each column are its own.
  pub column_data_pairs : (columns : List ColumnText) → IsFresh (names_for columns)
      → AllByRecursion (IsColumnText rows) columns
      → AllByRecursion (λ column. pairs_on column.name (column_data columns) ≡ texts (pairs_in column)) columns
  column_data_pairs columns fresh h =
      rw (data_lines columns h) (found columns fresh)

  -- ---- marks

  marked_in : (name other : Bytes) (pairs : List (Bytes × ℤ)) (more : List (List Bytes))
      → AllByRecursion (IsColumnPair rows) pairs → bytes_eq name other ≡ false
      → is_marked_from name true (lines_for other pairs ++ more) ≡ is_marked_from name true more
  marked_in name other [] more h f = refl
  marked_in name other (pair ∷ pairs) more h f = rw (h.0.apart, f) (marked_in name other pairs more h.1 f)

  marked_by : (name : Bytes) (column : ColumnText) (columns : List ColumnText) (more : List (List Bytes)) (same : Bool)
      → bytes_eq name column.name ≡ same → IsColumnText rows column
      → (is_named (names_for columns) name ≡ true → is_marked_from name true (all_lines columns ++ more) ≡ true)
      → (same || is_named (names_for columns) name) ≡ true
      → is_marked_from name true ((lines_for column.name (pairs_in column) ++ all_lines columns) ++ more) ≡ true
  marked_by name column columns more true e h g named = rw (h.pairs.0.apart, e) refl
  marked_by name column columns more false e h g named =
      ap (is_marked_from name true)
      (append_assoc (lines_for column.name (pairs_in column)) (all_lines columns) more)
      ∙ marked_in name column.name (pairs_in column) (all_lines columns ++ more) h.pairs e ∙ g named

  marked_from : (name : Bytes) (columns : List ColumnText) (more : List (List Bytes))
      → AllByRecursion (IsColumnText rows) columns → is_named (names_for columns) name ≡ true
      → is_marked_from name true (all_lines columns ++ more) ≡ true
  marked_from name [] more h named = absurd (false≢true named)
  marked_from name (column ∷ columns) more h named =
      marked_by name column columns more (bytes_eq name column.name) refl h.0
      (λ n. marked_from name columns more h.1 n) named

  -- Each column is marked as integer.
  pub column_data_marked : (columns : List ColumnText) (name : Bytes) → AllByRecursion (IsColumnText rows) columns
      → is_named (names_for columns) name ≡ true → is_marked name (column_data columns) ≡ true
  column_data_marked columns name h named =
      marked_from name columns (marker_fields (codes "'INTEND'") ∷ []) h named
