-- The rows and the columns that a canonical text says.
use Rattle.std.proofs.Common.{◌≡◌, List, [], ◌∷◌, map, Option, Some, ℤ, pos, refl, sym, ap, ◌∙◌}
use Rattle.std.proofs.Common.{arith, length}
use Rattle.std.specs.Prelude.{unwrap_or}
use Rattle.std.specs.List.{AllByRecursion}
use Rattle.std.proofs.lemmas.List.{length-map}
use Rattle.bl_limits.specs.declared.TheConstants.{MAX_NUMBER, MAX_TEXT_RHS}
use Rattle.bl_raw.specs.declared.raw.RawRow.{RawRow}
use Rattle.bl_raw.specs.declared.raw.RawColumn.{RawColumn}
use Rattle.bl_raw.specs.declared.raw.RawMps.{RawMps}
use Rattle.bl_mps_terms.specs.Words.{Bytes}
use Rattle.bl_mps_terms.specs.Lines.{row_names}
use Rattle.bl_mps_terms.specs.Meaning.{number_after, coefficient, row_of, nonzero_of}
use Rattle.bl_mps_write.specs.Canonical.{form_of}
use Rattle.bl_mps_laws.proofs.CanonicalText.{right_sides_of, ranges_of, column_text}
use Rattle.bl_mps_laws.proofs.ColumnLines.{pairs_in}
use Rattle.bl_mps_laws.proofs.Forms.{form_said}
use Rattle.bl_mps_laws.proofs.RowLines.{row_fields, letter_kind}
use Rattle.bl_mps_laws.proofs.Sayable.{AreSides, IsSayable, IsSayableColumn, names_of}
use Rattle.bl_mps_laws.proofs.Tables.{given, texts, unless_zero, zero_or, looked_up, coefficients_found}
use Rattle.bl_mps_laws.proofs.Usable.{all_names, numbers_with, pairs_given, readable, right_sides_small, ranges_small}
use Rattle.bl_mps_laws.proofs.Usable.{zeros_small}

-- ---- rows

heads : {A : Type 0} (x y : A) (xs ys : List A) → x ∷ xs ≡ y ∷ ys → (x ≡ y) × (xs ≡ ys)
heads x y xs ys e = ((cc), (cc))

row_back : (right_sides ranges : List (Bytes × Bytes)) (row : RawRow) → AreSides row.lo row.hi
    → number_after row.name right_sides ≡ unless_zero (form_of row).rhs
    → number_after row.name ranges ≡ (form_of row).range
    → row ≡ row_of right_sides ranges (row_fields row)
row_back right_sides ranges row h e f =
    let form = form_said row.lo row.hi h in
    sym (rw (letter_kind (form_of row).kind, e, f, zero_or (form_of row).rhs, form.lower, form.upper) refl)

-- Where the numbers are found by the names, the lines say the rows.
pub rows_back : (right_sides ranges : List (Bytes × Bytes)) (rows : List RawRow)
    → AllByRecursion (λ row. AreSides row.lo row.hi) rows
    → map (λ n. number_after n right_sides) (names_of rows) ≡ right_sides_of rows
    → map (λ n. number_after n ranges) (names_of rows) ≡ ranges_of rows
    → rows ≡ map (row_of right_sides ranges) (map row_fields rows)
rows_back right_sides ranges [] h e f = refl
rows_back right_sides ranges (row ∷ rows) h e f =
    let es = heads (number_after row.name right_sides) (unless_zero (form_of row).rhs) _ _ e in
    let fs = heads (number_after row.name ranges) (form_of row).range _ _ f in
    ap (λ (r : RawRow). r ∷ rows) (row_back right_sides ranges row h.0 es.0 fs.0)
    ∙ ap (λ (rs : List RawRow). row_of right_sides ranges (row_fields row) ∷ rs)
    (rows_back right_sides ranges rows h.1 es.1 fs.1)

-- the names on the lines of rows
pub fields_names : (rows : List RawRow) → row_names (map row_fields rows) ≡ names_of rows
fields_names [] = refl
fields_names (row ∷ rows) = ap (λ (ns : List Bytes). row.name ∷ ns) (fields_names rows)

module _ (mps : RawMps) (h : IsSayable mps) where
  sizes : (f : RawRow → Option ℤ) → length (names_of mps.rows) ≡ length (map f mps.rows)
  sizes f = length-map mps.rows (λ row. row.name) ∙ sym (length-map mps.rows f)

  -- The rows are those of the model.
  pub rows_said : mps.rows ≡ map (row_of (texts (given (names_of mps.rows) (right_sides_of mps.rows)))
      (texts (given (names_of mps.rows) (ranges_of mps.rows)))) (map row_fields mps.rows)
  rows_said =
      rows_back (texts (given (names_of mps.rows) (right_sides_of mps.rows)))
      (texts (given (names_of mps.rows) (ranges_of mps.rows))) mps.rows h.sides
      (looked_up (names_of mps.rows) (right_sides_of mps.rows) (sizes (λ row. unless_zero (form_of row).rhs))
      h.distinct.1 (readable MAX_TEXT_RHS (right_sides_of mps.rows) (omega arith) (right_sides_small mps.rows h.sides)))
      (looked_up (names_of mps.rows) (ranges_of mps.rows) (sizes (λ row. (form_of row).range)) h.distinct.1
      (readable MAX_TEXT_RHS (ranges_of mps.rows) (omega arith) (ranges_small mps.rows h.sides)))

  -- ---- columns

  module _ (column : RawColumn) (c : IsSayableColumn (length mps.rows) column) where
    abbrev pairs : List (Bytes × Bytes)
    pairs = texts (pairs_in (column_text mps.objective mps.rows column))

    found : map (λ n. number_after n pairs) (all_names mps h) ≡ numbers_with mps h column.cost c.numbers
    found =
        ap (λ (ps : List (Bytes × ℤ)). map (λ n. number_after n (texts ps)) (all_names mps h))
        (pairs_given mps h column c)
        ∙ looked_up (all_names mps h) (numbers_with mps h column.cost c.numbers)
        (omega (arith, length-map mps.rows (λ row. row.name), length-map c.numbers unless_zero, c.count)) h.distinct
        (readable MAX_NUMBER (numbers_with mps h column.cost c.numbers) (omega arith)
        (c.cost, zeros_small MAX_NUMBER c.numbers c.small))

    -- The cost and the coefficients are those of the column.
    pub cost_said : coefficient pairs mps.objective ≡ column.cost
    cost_said =
        ap (λ (o : Option ℤ). unwrap_or o (pos 0))
        (heads (number_after mps.objective pairs) (Some column.cost) _ _ found).0

    pub entries_said : column.entries ≡ nonzero_of (map (coefficient pairs) (names_of mps.rows))
    entries_said =
        c.entries ∙ ap nonzero_of (sym (coefficients_found pairs (names_of mps.rows) c.numbers
        (heads (number_after mps.objective pairs) (Some column.cost) _ _ found).1))
