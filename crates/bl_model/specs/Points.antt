-- Internal. Points against rows, with the sizes that keep the sums within 64 bits.
use Rattle.std.specs.Prelude.{◌≡◌, ℕ, ◌<◌, List, length, ℤ, IsTrue}
use Rattle.bl_limits.specs.declared.TheConstants.{MAX_NUMBER}
use Rattle.bl_whole.specs.Within.{AreWithin}
use Rattle.bl_terms.specs.Points.{Meets}
use Rattle.bl_terms.specs.Programs.{Row, row_at, inequality}

-- z meets every row
pub record MeetsAll (rows : List Row) (z : List ℤ) : Type 0 where
  pub each : (i : ℕ) → i < length rows → Meets (inequality (row_at rows i)) z

-- z meets every row that is marked as the follower's
pub record MeetsMarked (rows : List Row) (z : List ℤ) : Type 0 where
  pub each : (i : ℕ) → i < length rows → IsTrue (row_at rows i).lower → Meets (inequality (row_at rows i)) z

-- a row of n coefficients of magnitude at most MAX_NUMBER
pub record IsShort (n : ℕ) (row : Row) : Type 0 where
  pub count : length row.coef ≡ n
  pub coef : AreWithin MAX_NUMBER row.coef

-- rows of n coefficients of magnitude at most MAX_NUMBER
pub record AreShort (n : ℕ) (rows : List Row) : Type 0 where
  pub each : (i : ℕ) → i < length rows → IsShort n (row_at rows i)
