-- The pairs of a canonical text may stand in it.
use Rattle.std.proofs.Common.{◌≡◌, ℕ, suc, ◌+◌, ◌≤◌, Bool, true, false, not, List, [], ◌∷◌, ◌++◌, map}
use Rattle.std.proofs.Common.{filter, length, get_or, Option, Some, None, ℤ, pos, negsuc, unsigned_abs, refl, sym, ap}
use Rattle.std.proofs.Common.{subst, ◌∙◌, arith, append_assoc, zero}
use Rattle.std.specs.Prelude.{IfSome}
use Rattle.std.specs.List.{AllByRecursion, enumerate_from}
use Rattle.std.specs.Option.{option_map_or}
use Rattle.std.specs.Str.{bytes_eq}
use Rattle.std.proofs.Math.Seq.{get_or-append_seam}
use Rattle.std.proofs.lemmas.List.{length_push, length-map}
use Rattle.bl_limits.specs.declared.TheConstants.{MAX_NUMBER, MAX_TEXT_RHS, MAX_WHOLE}
use Rattle.bl_raw.specs.Raw.{IsSmall}
use Rattle.bl_raw.specs.declared.raw.RawRow.{RawRow}
use Rattle.bl_raw.specs.declared.raw.RawColumn.{RawColumn}
use Rattle.bl_raw.specs.declared.raw.RawMps.{RawMps}
use Rattle.bl_mps_terms.specs.Words.{Bytes}
use Rattle.bl_mps_terms.specs.Rules.{is_named, is_zero}
use Rattle.bl_mps_terms.specs.Lines.{names_in}
use Rattle.bl_mps_terms.specs.Meaning.{nonzero_of}
use Rattle.bl_mps_write.specs.Canonical.{form_of}
use Rattle.bl_mps.proofs.Names.{IsFresh, or_false, same_true}
use Rattle.bl_mps_laws.proofs.CanonicalText.{right_sides_of, ranges_of, entry_pairs, column_text}
use Rattle.bl_mps_laws.proofs.ColumnLines.{pairs_in, IsColumnPair, IsColumnText}
use Rattle.bl_mps_laws.proofs.Forms.{form_said}
use Rattle.bl_mps_laws.proofs.Fresh.{differ_sym, or_second}
use Rattle.bl_mps_laws.proofs.PairLines.{IsGoodPair}
use Rattle.bl_mps_laws.proofs.Sayable.{IsRowName, IsTextSide, AreSides, IsSayableColumn, IsSayable, names_of}
use Rattle.bl_mps_laws.proofs.Tables.{given, texts, unless_zero, IsReadable, fresh_given}

-- ---- names

-- a row that may have a number
record IsUsable (rows : List Bytes) (objective : Option Bytes) (name : Bytes) : Type 0 where
  row : IsRowName name
  named : is_named rows name ≡ true
  apart : option_map_or (bytes_eq name) objective false ≡ false

AllUsable : List Bytes → Option Bytes → List Bytes → Type 0
AllUsable rows objective names = AllByRecursion (IsUsable rows objective) names

usable_more : (first : Bytes) (rows : List Bytes) (objective : Option Bytes) (names : List Bytes)
    → AllUsable rows objective names → AllUsable (first ∷ rows) objective names
unfolding AllUsable
usable_more first rows objective [] h = tt
usable_more first rows objective (name ∷ names) h = (
  record {
    row = h.0.row;
    named = or_second (bytes_eq name first) (is_named rows name) h.0.named;
    apart = h.0.apart;
  },
  usable_more first rows objective names h.1,
)

-- each name may have a number where the objective may
usable : (names : List Bytes) → AllByRecursion IsRowName names → AllUsable names None names
unfolding AllUsable
usable [] h = tt
usable (name ∷ names) h = (
  record { row = h.0; named = rw (same_true name name refl) refl; apart = refl },
  usable_more name names None names (usable names h.1),
)

-- the names behind the objective may, where it may not
usable_apart : (objective : Bytes) (rows names : List Bytes) → is_named names objective ≡ false
    → AllUsable rows None names → AllUsable rows (Some objective) names
unfolding AllUsable
usable_apart objective rows [] f h = tt
usable_apart objective rows (name ∷ names) f h =
    let parts = or_false (bytes_eq objective name) (is_named names objective) f in (
      record { row = h.0.row; named = h.0.named; apart = differ_sym objective name parts.0 },
      usable_apart objective rows names parts.1 h.1,
    )

-- ---- pairs

module _ (rows : List Bytes) (most : ℕ) (objective : Option Bytes) where
  good_given : (names : List Bytes) (numbers : List (Option ℤ)) → AllUsable rows objective names
      → AllByRecursion (λ o. IfSome o (λ z. unsigned_abs z ≤ most)) numbers
      → AllByRecursion (IsGoodPair rows most objective) (given names numbers)
  unfolding AllUsable
  good_given [] numbers h small = tt
  good_given (name ∷ names) [] h small = tt
  good_given (name ∷ names) (None ∷ numbers) h small = good_given names numbers h.1 small.1
  good_given (name ∷ names) (Some z ∷ numbers) h small = (
    record { word = h.0.row.word; named = h.0.named; small = small.0; apart = h.0.apart },
    good_given names numbers h.1 small.1,
  )

-- the pairs of a column are of rows
column_given : (rows names : List Bytes) (numbers : List (Option ℤ)) → AllUsable rows None names
    → AllByRecursion (λ o. IfSome o IsSmall) numbers → AllByRecursion (IsColumnPair rows) (given names numbers)
unfolding AllUsable
column_given rows [] numbers h small = tt
column_given rows (name ∷ names) [] h small = tt
column_given rows (name ∷ names) (None ∷ numbers) h small = column_given rows names numbers h.1 small.1
column_given rows (name ∷ names) (Some z ∷ numbers) h small = (
  record {
    good = record { word = h.0.row.word; named = h.0.named; small = small.0; apart = refl };
    apart = h.0.row.apart;
  },
  column_given rows names numbers h.1 small.1,
)

-- ---- numbers

zero_small : (most : ℕ) (z : ℤ) → unsigned_abs z ≤ most → IfSome (unless_zero z) (λ x. unsigned_abs x ≤ most)
zero_small most (pos zero) le = tt
zero_small most (pos (suc n)) le = le
zero_small most (negsuc n) le = le

pub zeros_small : (most : ℕ) (numbers : List ℤ) → AllByRecursion (λ z. unsigned_abs z ≤ most) numbers
    → AllByRecursion (λ o. IfSome o (λ z. unsigned_abs z ≤ most)) (map unless_zero numbers)
zeros_small most [] h = tt
zeros_small most (z ∷ numbers) h = (zero_small most z h.0, zeros_small most numbers h.1)

pub right_sides_small : (rows : List RawRow) → AllByRecursion (λ row. AreSides row.lo row.hi) rows
    → AllByRecursion (λ o. IfSome o IsTextSide) (right_sides_of rows)
right_sides_small [] h = tt
right_sides_small (row ∷ rows) h = (
  zero_small MAX_TEXT_RHS (form_of row).rhs (form_said row.lo row.hi h.0).near,
  right_sides_small rows h.1,
)

pub ranges_small : (rows : List RawRow) → AllByRecursion (λ row. AreSides row.lo row.hi) rows
    → AllByRecursion (λ o. IfSome o IsTextSide) (ranges_of rows)
ranges_small [] h = tt
ranges_small (row ∷ rows) h = ((form_said row.lo row.hi h.0).far, ranges_small rows h.1)

-- numbers of at most this magnitude are read back
readable_one : (most : ℕ) (o : Option ℤ) → most ≤ MAX_WHOLE → IfSome o (λ z. unsigned_abs z ≤ most) → IsReadable o
readable_one most None whole h = tt
readable_one most (Some z) whole h = omega (arith, h, whole)

pub readable : (most : ℕ) (numbers : List (Option ℤ)) → most ≤ MAX_WHOLE
    → AllByRecursion (λ o. IfSome o (λ z. unsigned_abs z ≤ most)) numbers → AllByRecursion IsReadable numbers
readable most [] whole h = tt
readable most (o ∷ numbers) whole h = (readable_one most o whole h.0, readable most numbers whole h.1)

-- ---- entries

entry_by : (front : List Bytes) (name : Bytes) (names : List Bytes) (z : ℤ) (numbers : List ℤ) (zero : Bool)
    → is_zero z ≡ zero
    → map (λ (e : ℕ × ℤ). (get_or (front ++ name ∷ names) e.0 [], e.1))
    (filter (λ (entry : ℕ × ℤ). not (is_zero entry.1)) (enumerate_from (length front + 1) numbers))
    ≡ given names (map unless_zero numbers)
    → map (λ (e : ℕ × ℤ). (get_or (front ++ name ∷ names) e.0 [], e.1))
    (filter (λ (entry : ℕ × ℤ). not (is_zero entry.1)) (enumerate_from (length front) (z ∷ numbers)))
    ≡ given (name ∷ names) (unless_zero z ∷ map unless_zero numbers)
entry_by front name names z numbers true e h = rw e h
entry_by front name names z numbers false e h =
    rw e (ap (λ (x : Bytes). (x, z) ∷ map (λ (e : ℕ × ℤ). (get_or (front ++ name ∷ names) e.0 [], e.1))
    (filter (λ (entry : ℕ × ℤ). not (is_zero entry.1)) (enumerate_from (length front + 1) numbers)))
    (get_or-append_seam front name names []) ∙ ap (λ (ps : List (Bytes × ℤ)). (name, z) ∷ ps) h)

entries_from : (front names : List Bytes) (numbers : List ℤ) → length names ≡ length numbers
    → map (λ (e : ℕ × ℤ). (get_or (front ++ names) e.0 [], e.1))
    (filter (λ (entry : ℕ × ℤ). not (is_zero entry.1)) (enumerate_from (length front) numbers))
    ≡ given names (map unless_zero numbers)
entries_from front [] [] size = refl
entries_from front [] (z ∷ numbers) size = absurd (omega arith)
entries_from front (name ∷ names) [] size = absurd (omega arith)
entries_from front (name ∷ names) (z ∷ numbers) size =
    entry_by front name names z numbers (is_zero z) refl
    (subst (λ (k : ℕ). map (λ (e : ℕ × ℤ). (get_or (front ++ name ∷ names) e.0 [], e.1))
    (filter (λ (entry : ℕ × ℤ). not (is_zero entry.1)) (enumerate_from k numbers))
    ≡ given names (map unless_zero numbers)) (length_push front name)
    (subst (λ (all : List Bytes). map (λ (e : ℕ × ℤ). (get_or all e.0 [], e.1))
    (filter (λ (entry : ℕ × ℤ). not (is_zero entry.1)) (enumerate_from (length (front ++ name ∷ [])) numbers))
    ≡ given names (map unless_zero numbers)) (append_assoc front (name ∷ []) names)
    (entries_from (front ++ name ∷ []) names numbers (omega arith))))

-- The pairs of a column are its numbers other than 0, beside their rows.
pub entries_given : (rows : List RawRow) (entries : List (ℕ × ℤ)) (numbers : List ℤ) → length numbers ≡ length rows
    → entries ≡ nonzero_of numbers → entry_pairs rows entries ≡ given (names_of rows) (map unless_zero numbers)
entries_given rows entries numbers size e =
    ap (entry_pairs rows) e
    ∙ entries_from [] (names_of rows) numbers (length-map rows (λ row. row.name) ∙ sym size)

-- ---- a whole model

module _ (mps : RawMps) (h : IsSayable mps) where
  -- the rows of a text, the objective first
  abbrev pub all_names : List Bytes
  all_names = mps.objective ∷ names_of mps.rows

  behind_objective : AllUsable all_names None (names_of mps.rows)
  unfolding AllUsable
  behind_objective = (usable all_names h.names).1

  pub right_sides_good : AllByRecursion (IsGoodPair all_names MAX_TEXT_RHS (Some mps.objective))
      (given (names_of mps.rows) (right_sides_of mps.rows))
  right_sides_good =
      good_given all_names MAX_TEXT_RHS (Some mps.objective) (names_of mps.rows) (right_sides_of mps.rows)
      (usable_apart mps.objective all_names (names_of mps.rows) h.distinct.0 behind_objective)
      (right_sides_small mps.rows h.sides)

  pub ranges_good : AllByRecursion (IsGoodPair all_names MAX_TEXT_RHS None)
      (given (names_of mps.rows) (ranges_of mps.rows))
  ranges_good =
      good_given all_names MAX_TEXT_RHS None (names_of mps.rows) (ranges_of mps.rows) behind_objective
      (ranges_small mps.rows h.sides)

  -- the numbers of a column, its cost first
  abbrev pub numbers_with : ℤ → List ℤ → List (Option ℤ)
  numbers_with cost numbers = Some cost ∷ map unless_zero numbers

  pub pairs_given : (column : RawColumn) (c : IsSayableColumn (length mps.rows) column)
      → pairs_in (column_text mps.objective mps.rows column) ≡ given all_names (numbers_with column.cost c.numbers)
  pairs_given column c =
      ap (λ (ps : List (Bytes × ℤ)). (mps.objective, column.cost) ∷ ps)
      (entries_given mps.rows column.entries c.numbers c.count c.entries)

  pub column_good : (column : RawColumn) → IsSayableColumn (length mps.rows) column
      → IsColumnText all_names (column_text mps.objective mps.rows column)
  column_good column c =
      let are = pairs_given column c in
      let numbers = numbers_with column.cost c.numbers in
      record {
        word = c.name;
        pairs = subst (AllByRecursion (IsColumnPair all_names)) (sym are)
            (column_given all_names all_names numbers (usable all_names h.names)
            (c.cost, zeros_small MAX_NUMBER c.numbers c.small));
        distinct = subst (λ (ps : List (Bytes × ℤ)). IsFresh (names_in (texts ps))) (sym are)
            (fresh_given all_names numbers h.distinct);
      }

  pub columns_good : (columns : List RawColumn) → AllByRecursion (IsSayableColumn (length mps.rows)) columns
      → AllByRecursion (IsColumnText all_names) (map (column_text mps.objective mps.rows) columns)
  columns_good [] c = tt
  columns_good (column ∷ columns) c = (column_good column c.0, columns_good columns c.1)
