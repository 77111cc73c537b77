-- Trusted. What a model's two texts say, and the limits that they keep.
use Rattle.std.specs.Prelude.{◌≡◌, ℕ, ◌<◌, ◌≤◌, ◌⊎◌, List, length, map, ℤ, pos, negsuc, ◌≤ℤ◌, unsigned_abs, ◌≢◌, None}
use Rattle.std.specs.Prelude.{Some, IfSome, IsSome, All, AllPairs}
use Rattle.std.specs.List.Sorted.{IsStrictlyIncreasing}
use Rattle.bl_limits.specs.declared.TheConstants.{MAX_COLUMNS, MAX_TEXT_ROWS, MAX_NUMBER, MAX_RHS}
use Rattle.bl_raw.specs.declared.raw.RawRow.{RawRow}
use Rattle.bl_raw.specs.declared.raw.RawColumn.{RawColumn}
use Rattle.bl_raw.specs.declared.raw.RawMps.{RawMps}
use Rattle.bl_raw.specs.declared.raw.RawAux.{RawAux}

-- a coefficient, a cost or a bound is small enough
abbrev pub IsSmall : ℤ → Type 0
IsSmall z = unsigned_abs z ≤ MAX_NUMBER

-- a side of a row is small enough
abbrev pub IsSide : ℤ → Type 0
IsSide z = unsigned_abs z ≤ MAX_RHS

-- a row has a side, and a lower side isn't above an upper one
pub record IsRow (row : RawRow) : Type 0 where
  pub lo : IfSome row.lo IsSide
  pub hi : IfSome row.hi IsSide
  pub bounded : row.lo ≡ None → IsSome row.hi
  pub ordered : (a b : ℤ) → row.lo ≡ Some a → row.hi ≡ Some b → a ≤ℤ b

-- a column's range isn't empty; its coefficients stand at rising rows, each below the number of rows
pub record IsColumn (rows : ℕ) (column : RawColumn) : Type 0 where
  pub lo : IsSmall column.lo
  pub hi : IsSmall column.hi
  pub ordered : column.lo ≤ℤ column.hi
  pub cost : IsSmall column.cost
  pub rising : IsStrictlyIncreasing (map (λ e. e.0) column.entries)
  pub within : All (λ e. e.0 < rows) column.entries
  pub small : All (λ e. IsSmall e.1) column.entries

-- what the text of a model says: few enough columns and rows, each as above
pub record IsRawModel (mps : RawMps) : Type 0 where
  pub column_count : length mps.columns ≤ MAX_COLUMNS
  pub row_count : length mps.rows ≤ MAX_TEXT_ROWS
  pub rows : All IsRow mps.rows
  pub columns : All (IsColumn (length mps.rows)) mps.columns

-- 1 where a cost is to be minimised, -1 where it is to be maximised
abbrev pub IsSense : ℤ → Type 0
IsSense z = (z ≡ pos 1) ⊎ (z ≡ negsuc 0)

-- no two are equal
abbrev pub AreDistinct : List ℕ → Type 0
AreDistinct xs = AllPairs (λ x y. x ≢ y) xs

-- distinct follower columns and rows of a model with so many, one cost for each follower column,
-- and one of the two senses
pub record FitsModel (column_count row_count : ℕ) (aux : RawAux) : Type 0 where
  pub columns : All (λ c. c < column_count) aux.columns
  pub distinct_columns : AreDistinct aux.columns
  pub rows : All (λ r. r < row_count) aux.rows
  pub distinct_rows : AreDistinct aux.rows
  pub cost_count : length aux.costs ≡ length aux.columns
  pub costs : All IsSmall aux.costs
  pub sense : IsSense aux.sense
