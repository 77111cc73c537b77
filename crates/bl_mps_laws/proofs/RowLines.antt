-- The lines under ROWS of a canonical text.
use Rattle.std.proofs.Common.{◌≡◌, ◌+◌, ◌≤◌, true, false, ◌||◌, List, [], ◌∷◌, ◌++◌, map, length}
use Rattle.std.proofs.Common.{Some, None, ltb, refl, sym, ap, subst, ◌∙◌, arith, codes, append_assoc, not}
use Rattle.std.proofs.Common.{get_or}
use Rattle.std.specs.List.{AllByRecursion}
use Rattle.std.proofs.lemmas.Bool.{lt-ltb}
use Rattle.std.proofs.lemmas.List.{map_push, length_push}
use Rattle.std.proofs.lemmas.List.Elements.{filter-append}
use Rattle.bl_limits.specs.declared.TheConstants.{MAX_TEXT_ROWS}
use Rattle.bl_raw.specs.declared.raw.RawRow.{RawRow}
use Rattle.bl_mps_terms.specs.declared.words.RowKind.{RowKind}
use Rattle.bl_mps_terms.specs.declared.words.RowKind.TheVariants.{Free, AtMost, AtLeast, Equal}
use Rattle.bl_mps_terms.specs.Words.{Bytes, row_kind}
use Rattle.bl_mps_terms.specs.Rules.{is_named}
use Rattle.bl_mps_terms.specs.Lines.{is_free, is_free_row, row_names, bounded_rows, row_fault}
use Rattle.bl_mps_write.specs.Canonical.{letter_of, form_of}
use Rattle.bl_mps.proofs.Names.{IsFresh}
use Rattle.bl_mps_laws.proofs.Forms.{form_said}
use Rattle.bl_mps_laws.proofs.Fresh.{fresh_before}
use Rattle.bl_mps_laws.proofs.Sayable.{IsRowName, AreSides, names_of}
use Rattle.bl_mps_laws.proofs.Tokens.{IsWord}
use Rattle.bl_mps_laws.proofs.Walks.{EachFine}

-- the fields of the line of a row
abbrev pub row_fields : RawRow → List Bytes
row_fields row = letter_of (form_of row).kind ∷ row.name ∷ []

-- the lines under ROWS
abbrev pub row_data : Bytes → List RawRow → List (List Bytes)
row_data objective rows = (codes "N" ∷ objective ∷ []) ∷ map row_fields rows

pub letter_kind : (kind : RowKind) → row_kind (letter_of kind) ≡ Some kind
letter_kind Free = refl
letter_kind AtMost = refl
letter_kind AtLeast = refl
letter_kind Equal = refl

letter_word : (kind : RowKind) → IsWord (letter_of kind)
letter_word Free = record { field = (refl, tt); line = (refl, tt) }
letter_word AtMost = record { field = (refl, tt); line = (refl, tt) }
letter_word AtLeast = record { field = (refl, tt); line = (refl, tt) }
letter_word Equal = record { field = (refl, tt); line = (refl, tt) }

row_fine : (before : List (List Bytes)) (kind : RowKind) (name : Bytes) → IsRowName name
    → is_named (row_names before) name ≡ false
    → (is_free kind || ltb (length (bounded_rows before)) MAX_TEXT_ROWS) ≡ true
    → row_fault before (letter_of kind ∷ name ∷ []) ≡ None
row_fine before kind name h fresh room = rw (letter_kind kind, h.apart, fresh, room) refl

not_free : (row : RawRow) → AreSides row.lo row.hi → is_free_row (row_fields row) ≡ false
not_free row h = rw (letter_kind (form_of row).kind) (form_said row.lo row.hi h).bounded

bounded_one : (before : List (List Bytes)) (row : RawRow) → AreSides row.lo row.hi
    → bounded_rows (before ++ row_fields row ∷ []) ≡ bounded_rows before ++ row_fields row ∷ []
bounded_one before row h =
    filter-append (λ line. not (is_free_row line)) before (row_fields row ∷ []) ∙ rw (not_free row h) refl

rows_fine : (before : List (List Bytes)) (rows : List RawRow) → AllByRecursion IsRowName (names_of rows)
    → IsFresh (row_names before ++ names_of rows) → AllByRecursion (λ row. AreSides row.lo row.hi) rows
    → length (bounded_rows before) + length rows ≤ MAX_TEXT_ROWS → EachFine row_fault before (map row_fields rows)
rows_fine before [] names fresh sides few = tt
rows_fine before (row ∷ rows) names fresh sides few =
    let one = bounded_one before row sides.0 in
    let size : length (bounded_rows (before ++ row_fields row ∷ [])) ≡ length (bounded_rows before) + 1 =
    ap length one ∙ length_push (bounded_rows before) (row_fields row) in
    let bounded = (form_said row.lo row.hi sides.0).bounded in
    let room : ltb (length (bounded_rows before)) MAX_TEXT_ROWS ≡ true =
    lt-ltb (length (bounded_rows before)) MAX_TEXT_ROWS (omega (arith, few)) in (
      ((letter_word (form_of row).kind, (names.0.word, tt))),
      row_fine before (form_of row).kind row.name names.0
          (fresh_before (row_names before) row.name (names_of rows) fresh) (rw bounded room),
      rows_fine (before ++ row_fields row ∷ []) rows names.1
          (subst IsFresh (sym (ap (λ (ns : List Bytes). ns ++ names_of rows)
          (map_push (λ (line : List Bytes). get_or line 1 []) before (row_fields row))
          ∙ append_assoc (row_names before) (row.name ∷ []) (names_of rows))) fresh) sides.1 (omega (arith, few, size)),
    )

-- The lines break no rule.
pub row_data_fine : (objective : Bytes) (rows : List RawRow) → AllByRecursion IsRowName (objective ∷ names_of rows)
    → IsFresh (objective ∷ names_of rows) → AllByRecursion (λ row. AreSides row.lo row.hi) rows
    → length rows ≤ MAX_TEXT_ROWS → EachFine row_fault [] (row_data objective rows)
row_data_fine objective rows names fresh sides few = (
  (letter_word Free, (names.0.word, tt)),
  row_fine [] Free objective names.0 refl refl,
  rows_fine ((codes "N" ∷ objective ∷ []) ∷ []) rows names.1 fresh sides (omega (arith, few)),
)

-- The rows that they name.
pub row_data_names : (objective : Bytes) (rows : List RawRow)
    → row_names (row_data objective rows) ≡ objective ∷ names_of rows
row_data_names objective rows = ap (λ (ns : List Bytes). objective ∷ ns) (names_same rows)
  where
    names_same : (rows : List RawRow) → row_names (map row_fields rows) ≡ names_of rows
    names_same [] = refl
    names_same (row ∷ rows) = ap (λ (ns : List Bytes). row.name ∷ ns) (names_same rows)

pub row_data_bounded : (objective : Bytes) (rows : List RawRow) → AllByRecursion (λ row. AreSides row.lo row.hi) rows
    → bounded_rows (row_data objective rows) ≡ map row_fields rows
row_data_bounded objective rows h = all_bounded rows h
  where
    all_bounded : (rows : List RawRow) → AllByRecursion (λ row. AreSides row.lo row.hi) rows
        → bounded_rows (map row_fields rows) ≡ map row_fields rows
    all_bounded [] h = refl
    all_bounded (row ∷ rows) h = rw (not_free row h.0, all_bounded rows h.1) refl
