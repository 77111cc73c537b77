-- Sizes: a whole number of magnitude at most m, and sums that fit a width.
use Rattle.std.specs.Prelude.{ℕ, ℤ, ◌<◌, ◌≤◌, ◌*ℤ◌, List, length, unsigned_abs, FitsSigned}
use Rattle.std.specs.Int.{Width}
use Rattle.bl_whole.specs.Sums.{component, sum_below}

-- the magnitude of z is at most m
pub record IsWithin (m : ℕ) (z : ℤ) : Type 0 where
  pub magnitude : unsigned_abs z ≤ m

-- each number of xs has a magnitude of at most m
pub record AreWithin (m : ℕ) (xs : List ℤ) : Type 0 where
  pub each : (k : ℕ) → k < length xs → IsWithin m (component xs k)

-- the sum of the products at the first k places fits the width, for each k
pub record PartialDotsFit (w : Width) (cs zs : List ℤ) : Type 0 where
  pub each : (k : ℕ) → k ≤ length cs → FitsSigned w (sum_below k (λ j. component cs j *ℤ component zs j))
