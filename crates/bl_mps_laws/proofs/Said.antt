-- What a text says, its canonical text can say; and so it says it.
use Rattle.std.proofs.Common.{◌≡◌, ℕ, ◌<◌, ◌≤◌, Bool, true, false, cond, List, [], ◌∷◌, length, Option, Some}
use Rattle.std.proofs.Common.{None, Result, Ok, Err, ℤ, is_none, nat_lt, refl, sym, ap, subst, ◌∙◌}
use Rattle.std.proofs.Common.{inl, inr, ◌⊎◌}
use Rattle.std.specs.List.{AllByRecursion, flat_map}
use Rattle.std.proofs.lemmas.Bool.{lt-ltb}
use Rattle.std.proofs.lemmas.List.{append-nil, length-map}
use Rattle.bl_limits.specs.declared.TheConstants.{MAX_TEXT_BYTES, MAX_TEXT_ROWS, MAX_COLUMNS}
use Rattle.bl_raw.specs.Raw.{IsSmall}
use Rattle.bl_raw.specs.declared.raw.RawMps.{RawMps}
use Rattle.bl_text.specs.Lines.{lines_of}
use Rattle.bl_text.proofs.LineLaws.{is_its_lines}
use Rattle.bl_mps_terms.specs.declared.fault.MpsFault.{MpsFault}
use Rattle.bl_mps_terms.specs.declared.fault.MpsRule.TheVariants as rules
use Rattle.bl_mps_terms.specs.declared.words.Section.TheVariants.{Rows, Columns, RightSides, Ranges, Bounds}
use Rattle.bl_mps_terms.specs.Words.{Bytes}
use Rattle.bl_mps_terms.specs.Parts.{field, under, lines_read}
use Rattle.bl_mps_terms.specs.Lines.{objective_of, row_names, bounded_rows, columns_of, pairs_of_set}
use Rattle.bl_mps_terms.specs.Meaning.{row_of, Reads}
use Rattle.bl_mps_terms.specs.Faults.{at_line, or_else, lines_fault, columns_fault, model_fault, first_fault}
use Rattle.bl_mps_read.specs.declared.error.MpsError.{MpsError}
use Rattle.bl_mps_read.specs.declared.error.MpsError.TheVariants.{Fault, Memory}
use Rattle.bl_mps_write.specs.Canonical.{mps_text}
use Rattle.bl_mps.specs.Read.{IsRead}
use Rattle.bl_mps.proofs.LineParts.{parts_of}
use Rattle.bl_mps.proofs.Names.{IsFresh}
use Rattle.bl_mps.proofs.OneModel.{has_one_reading}
use Rattle.bl_mps_laws.specs.ReadsBack.{ReadsBack}
use Rattle.bl_mps_laws.proofs.Canonical.{says_sayable}
use Rattle.bl_mps_laws.proofs.LineRules.{Keeps, lines_keep, nothing_kept}
use Rattle.bl_mps_laws.proofs.SaidColumns.{wholes_none, columns_said, column_names_said}
use Rattle.bl_mps_laws.proofs.SaidRows.{sides_said, names_said, bounded_names, objective_name, objective_apart}
use Rattle.bl_mps_laws.proofs.SaidRows.{bounded_fresh}
use Rattle.bl_mps_laws.proofs.Sayable.{IsRowName, AreSides, IsSayableColumn, IsSayable, names_of, column_names}

-- ---- a text without a fault

-- its lines break no rule, and neither does the whole
record IsFaultless (default : ℤ) (text : List ℕ) : Type 0 where
  lines : lines_fault [] (lines_of text) ≡ None
  whole : model_fault default (lines_read (lines_of text)) ≡ None

none_both : (a b : Option MpsFault) → or_else a b ≡ None → (a ≡ None) × (b ≡ None)
none_both None b e = (refl, e)
none_both (Some fault) b e = absurd cc

faultless_by : (default : ℤ) (text : List ℕ) (long : Bool)
    → cond long (Some (at_line 0 rules.TooLong))
    (or_else (lines_fault [] (lines_of text)) (model_fault default (lines_read (lines_of text)))) ≡ None
    → IsFaultless default text
faultless_by default text true e = absurd cc
faultless_by default text false e =
    let both = none_both (lines_fault [] (lines_of text)) (model_fault default (lines_read (lines_of text))) e in
    record { lines = both.0; whole = both.1 }

faultless_from : (default : ℤ) (text : List ℕ) → first_fault default text ≡ None → IsFaultless default text
unfolding first_fault
faultless_from default text e = faultless_by default text (nat_lt MAX_TEXT_BYTES (length text)) e

columns_none : (default : ℤ) (lines : List Bytes) (first : Option Bytes) (objective : Bytes) → first ≡ Some objective
    → cond (is_none first) (Some (at_line 0 rules.NoObjective))
    (columns_fault default (under Columns lines) (under Bounds lines) 0 (columns_of (under Columns lines))) ≡ None
    → columns_fault default (under Columns lines) (under Bounds lines) 0 (columns_of (under Columns lines)) ≡ None
columns_none default lines None objective f e = absurd cc
columns_none default lines (Some o) objective f e = e

-- ---- what it says

module _ (default : ℤ) (small : IsSmall default) (text : List ℕ) (mps : RawMps) (reads : Reads default text mps) where
  abbrev lines : List Bytes
  lines = lines_read (lines_of text)

  abbrev rows : List (List Bytes)
  rows = under Rows lines

  faultless : IsFaultless default text
  faultless = faultless_from default text reads.faultless

  keeps : Keeps (parts_of lines)
  keeps = lines_keep [] (lines_of text) faultless.lines (is_its_lines text).0 nothing_kept

  first : objective_of rows ≡ Some mps.objective
  first = sym reads.says.objective

  named : names_of mps.rows ≡ row_names (bounded_rows rows)
  named =
      ap names_of reads.says.rows
      ∙ names_said (flat_map pairs_of_set (under RightSides lines)) (flat_map pairs_of_set (under Ranges lines))
      (bounded_rows rows)

  row_count : length mps.rows ≡ length (bounded_rows rows)
  row_count =
      ap length reads.says.rows
      ∙ length-map (bounded_rows rows) (row_of (flat_map pairs_of_set (under RightSides lines))
      (flat_map pairs_of_set (under Ranges lines)))

  names_count : length (row_names (bounded_rows rows)) ≡ length mps.rows
  names_count = length-map (bounded_rows rows) (field 1) ∙ sym row_count

  column_names_are : columns_of (under Columns lines) ≡ column_names mps.columns
  column_names_are =
      column_names_said default small lines mps.objective first keeps.columns (columns_of (under Columns lines))
      mps.columns reads.says.columns

  sides : AllByRecursion (λ row. AreSides row.lo row.hi) mps.rows
  sides =
      subst (AllByRecursion (λ row. AreSides row.lo row.hi)) (sym reads.says.rows)
      (sides_said (flat_map pairs_of_set (under RightSides lines)) (flat_map pairs_of_set (under Ranges lines)) rows
      keeps.right_sides.small keeps.ranges.small
      keeps.rows.lines)

  columns : AllByRecursion (IsSayableColumn (length mps.rows)) mps.columns
  columns =
      subst (λ (n : ℕ). AllByRecursion (IsSayableColumn n) mps.columns) names_count
      (columns_said default small lines mps.objective first keeps.columns (columns_of (under Columns lines))
      mps.columns keeps.columns.words
      (wholes_none default (under Columns lines) (under Bounds lines) 0 (columns_of (under Columns lines))
      (columns_none default lines (objective_of rows) mps.objective first faultless.whole)) reads.says.columns)

  -- What a text says, its canonical text can say.
  pub said_sayable : IsSayable mps
  said_sayable = record {
    names = (
      objective_name rows mps.objective first keeps.rows.lines,
      subst (AllByRecursion IsRowName) (sym named) (bounded_names rows keeps.rows.lines),
    );
    distinct = subst (λ (ns : List Bytes). IsFresh (mps.objective ∷ ns)) (sym named)
        (objective_apart rows mps.objective first keeps.rows.distinct, bounded_fresh rows keeps.rows.distinct);
    row_count = subst (λ (n : ℕ). n ≤ MAX_TEXT_ROWS) (sym row_count) keeps.rows.count;
    sides = sides;
    columns = columns;
    distinct_columns = subst IsFresh column_names_are keeps.columns.distinct;
    column_count = subst (λ (n : ℕ). n ≤ MAX_COLUMNS)
        (ap length column_names_are ∙ length-map mps.columns (λ column. column.name)) keeps.columns.count;
  }

-- ---- what is read back

long_fault : (other : ℤ) (text : List ℕ) → MAX_TEXT_BYTES < length text
    → first_fault other text ≡ Some (at_line 0 rules.TooLong)
unfolding first_fault
long_fault other text long = rw (lt-ltb MAX_TEXT_BYTES (length text) long) refl

same_result : (other : ℤ) (text : List ℕ) (mps : RawMps) (result : Result RawMps MpsError) → Reads other text mps
    → IsRead other text result → (result ≡ Ok mps) ⊎ (result ≡ Err Memory)
same_result other text mps (Ok x) r is =
    inl (ap (λ (m : RawMps). Ok m) ((has_one_reading other text).one x mps is r))
same_result other text mps (Err (Fault fault)) r is = absurd ((has_one_reading other text).never_both mps fault r is)
same_result other text mps (Err Memory) r is = inr refl

-- the canonical text by itself
alone : (mps : RawMps) → IsSayable mps → length (mps_text mps) ≤ MAX_TEXT_BYTES → (other : ℤ)
    → Reads other (mps_text mps) mps
alone mps h short other =
    let same = append-nil (mps_text mps) in
    subst (λ (t : List ℕ). Reads other t mps) same
    (says_sayable mps h other [] (subst (λ (t : List ℕ). length t ≤ MAX_TEXT_BYTES) (sym same) short))

pub reads_back : ReadsBack
reads_back = record {
  said = λ default text mps small reads short other. alone mps (said_sayable default small text mps reads) short other;
  followed = λ default text mps small reads behind short other. says_sayable mps
      (said_sayable default small text mps reads) other behind short;
  read = λ default text mps small reads short other result is. same_result other (mps_text mps) mps result
      (alone mps (said_sayable default small text mps reads) short other) is;
  long = λ mps long other. long_fault other (mps_text mps) long;
}
