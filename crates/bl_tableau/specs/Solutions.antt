-- Trusted. What it means that rational values solve a dictionary, and the law of the replay.
use Rattle.std.specs.Prelude.{ℕ, ◌<◌, ◌≤◌, ◌↔◌, List, length}
use Rattle.bl_terms.specs.Bounds.{Problem}
use Rattle.bl_simplex.specs.Fractions.{Fraction}
use Rattle.bl_simplex.specs.Rationals.{rational_difference, rational_product, rational_total, SameRational}
use Rattle.bl_simplex.specs.Dictionaries.{Dictionary, columns, cost_row, opening}
use Rattle.bl_simplex.specs.Rationals.{fraction_at}
use Rattle.bl_simplex.specs.Pivots.{replay, AllNarrow}

-- row i holds for the values x of the variables: its variable is its right side less the sum of entry times column
-- variable
abbrev pub SolvesRow : ℕ → Dictionary → (ℕ → Fraction) → ℕ → Type 0
SolvesRow n d x i =
    SameRational (x (d.row_label i))
    (rational_difference (d.place i n) (rational_total n (λ j. rational_product (d.place i j) (x (d.column_label j)))))

-- the list has a value for each variable, by its number, the variable of the cost row included: every row holds
pub record Solves (q : Problem) (d : Dictionary) (values : List Fraction) : Type 0 where
  pub each : (i : ℕ) → i ≤ cost_row q → SolvesRow (columns q) d (fraction_at values) i

-- each denominator is positive
pub record AreRational (values : List Fraction) : Type 0 where
  pub each : (k : ℕ) → k < length values → 0 < (fraction_at values k).den

-- the law of the replay: the values that solve the opening dictionary are those that solve the replayed one
abbrev pub ReplayLaw : Type 0
ReplayLaw =
    (q : Problem) (pivots : List (ℕ × ℕ)) (values : List Fraction) → AllNarrow q (opening q) pivots → AreRational values
    → Solves q (opening q) values ↔ Solves q (replay (opening q) pivots) values
