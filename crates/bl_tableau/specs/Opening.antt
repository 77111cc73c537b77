-- How the opening dictionary is built, row by row.
use Rattle.std.specs.Prelude.{◌≡◌, ℕ, ◌+◌, ◌<◌, List, length, ℤ}
use Rattle.bl_whole.specs.Sums.{component}
use Rattle.bl_whole.specs.Within.{AreWithin}
use Rattle.bl_terms.specs.Bounds.{Problem}
use Rattle.bl_simplex.specs.Fractions.{Fraction, whole_fraction}
use Rattle.bl_simplex.specs.Dictionaries.{columns, start_at}
use Rattle.bl_simplex.specs.Rationals.{fraction_at}
use Rattle.bl_tableau.specs.Cells.{AreReduced}

-- n whole numbers f 0, f 1, .. now stand behind the old list, as fractions in lowest terms
pub record Appends (old new : List Fraction) (n : ℕ) (f : ℕ → ℤ) : Type 0 where
  pub size : length new ≡ length old + n
  pub before : (k : ℕ) → k < length old → fraction_at new k ≡ fraction_at old k
  pub after : (j : ℕ) → j < n → fraction_at new (length old + j) ≡ whole_fraction (f j)
  pub numbers : AreReduced old → AreReduced new

-- the list has the start of each column, of magnitude at most ten millions
pub record AreStarts (q : Problem) (starts : List ℤ) : Type 0 where
  pub size : length starts ≡ columns q
  pub each : (j : ℕ) → j < columns q → component starts j ≡ start_at q j
  pub within : AreWithin 10000000 starts
