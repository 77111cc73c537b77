-- Trusted: what a contract sees of the float simplex.
use Rattle.std.specs.Prelude.{ℕ}

-- how many rows and columns the last problem had
pub record Shape : Type 0 where
  pub rows : ℕ
  pub columns : ℕ
