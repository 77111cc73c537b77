-- The models that a text can say: names are words, each stands once, and numbers keep the limits of a text.
use Rattle.std.proofs.Common.{◌≡◌, ℕ, ◌≤◌, false, List, ◌∷◌, length, map, Option, Some, None, ℤ, ◌⊎◌, codes}
use Rattle.std.specs.Prelude.{◌-ℤ◌, ◌≤ℤ◌, unsigned_abs}
use Rattle.std.specs.List.{AllByRecursion}
use Rattle.std.specs.Str.{bytes_eq}
use Rattle.bl_limits.specs.declared.TheConstants.{MAX_COLUMNS, MAX_TEXT_ROWS, MAX_TEXT_RHS}
use Rattle.bl_raw.specs.Raw.{IsSmall}
use Rattle.bl_raw.specs.declared.raw.RawRow.{RawRow}
use Rattle.bl_raw.specs.declared.raw.RawColumn.{RawColumn}
use Rattle.bl_raw.specs.declared.raw.RawMps.{RawMps}
use Rattle.bl_mps_terms.specs.Words.{Bytes}
use Rattle.bl_mps_terms.specs.Meaning.{nonzero_of}
use Rattle.bl_mps.proofs.Names.{IsFresh}
use Rattle.bl_mps_laws.proofs.Tokens.{IsWord}

-- ---- rows

-- A word for a row: that of marker lines isn't one.
pub record IsRowName (name : Bytes) : Type 0 where
  pub word : IsWord name
  pub apart : bytes_eq name (codes "'MARKER'") ≡ false

-- a right-hand side and a range are small enough
abbrev pub IsTextSide : ℤ → Type 0
IsTextSide z = unsigned_abs z ≤ MAX_TEXT_RHS

-- Two sides lie no further apart than a range, and one of them is a right-hand side.
pub record AreBothSides (lo hi : ℤ) : Type 0 where
  pub ordered : lo ≤ℤ hi
  pub range : IsTextSide (hi -ℤ lo)
  pub near : IsTextSide lo ⊎ IsTextSide hi

abbrev pub AreSides : Option ℤ → Option ℤ → Type 0
AreSides None None = ⊥
AreSides None (Some hi) = IsTextSide hi
AreSides (Some lo) None = IsTextSide lo
AreSides (Some lo) (Some hi) = AreBothSides lo hi

-- ---- columns

-- one small number for each row; the entries are those other than 0
pub record IsSayableColumn (rows : ℕ) (column : RawColumn) : Type 0 where
  pub name : IsWord column.name
  pub lo : IsSmall column.lo
  pub hi : IsSmall column.hi
  pub ordered : column.lo ≤ℤ column.hi
  pub cost : IsSmall column.cost
  pub numbers : List ℤ
  pub count : length numbers ≡ rows
  pub small : AllByRecursion IsSmall numbers
  pub entries : column.entries ≡ nonzero_of numbers

-- ---- models

abbrev pub names_of : List RawRow → List Bytes
names_of rows = map (λ row. row.name) rows

abbrev pub column_names : List RawColumn → List Bytes
column_names columns = map (λ column. column.name) columns

pub record IsSayable (mps : RawMps) : Type 0 where
  pub names : AllByRecursion IsRowName (mps.objective ∷ names_of mps.rows)
  pub distinct : IsFresh (mps.objective ∷ names_of mps.rows)
  pub row_count : length mps.rows ≤ MAX_TEXT_ROWS
  pub sides : AllByRecursion (λ row. AreSides row.lo row.hi) mps.rows
  pub columns : AllByRecursion (IsSayableColumn (length mps.rows)) mps.columns
  pub distinct_columns : IsFresh (column_names mps.columns)
  pub column_count : length mps.columns ≤ MAX_COLUMNS
