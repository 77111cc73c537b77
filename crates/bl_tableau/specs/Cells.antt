-- The dictionary as a list of numbers, row by row.
use Rattle.std.specs.Prelude.{ℕ, ◌+◌, ◌*◌, ◌<◌, List, length}
use Rattle.bl_simplex.specs.Rationals.{fraction_at}
use Rattle.bl_simplex.specs.Fractions.{Fraction, IsReduced}

-- the number of row i at column j, where a row has so many numbers
abbrev pub placed : List Fraction → ℕ → ℕ → ℕ → Fraction
placed xs width i j = fraction_at xs (i * width + j)

-- each fraction is in lowest terms
pub record AreReduced (xs : List Fraction) : Type 0 where
  pub each : (k : ℕ) → k < length xs → IsReduced (fraction_at xs k)
