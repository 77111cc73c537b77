-- Trusted: the legal pivot, a step of the dual simplex method (Lemke 1954). Its column is found by the dual
-- ratio test, ties going to the least label (Bland 1977).
use Rattle.std.specs.Prelude.{◌≡◌, ℕ, ◌<◌, ◌⊎◌, Option, Some, None, IsSome, MatchOption, pos, ◌<ℤ◌}
use Rattle.std.specs.declared.cmp.Ordering.{Ordering}
use Rattle.bl_terms.specs.Bounds.{Problem}
use Rattle.bl_simplex.specs.Fractions.{Fraction, quotient_of, order_of}
use Rattle.bl_simplex.specs.Dictionaries.{Dictionary, columns, cost_row}

-- cost entry divided by row entry at column j
abbrev pub ratio_of : (ℕ → Fraction) → (ℕ → Fraction) → ℕ → Option Fraction
ratio_of costs entries j = quotient_of (costs j) (entries j)

-- column j is a candidate: its entry in the row is negative
pub record IsCandidate (n : ℕ) (entries : ℕ → Fraction) (j : ℕ) : Type 0 where
  pub column_in : j < n
  pub negative : (entries j).num <ℤ pos 0

-- Bland's rule: one column goes before another where its ratio is less, or the two are equal and it has the lesser
-- label
abbrev pub WinsRatioTest : ℕ → ℕ → Fraction → Fraction → Type 0
WinsRatioTest label label' ratio ratio' =
    (order_of ratio ratio' ≡ Ordering.Less) ⊎ ((order_of ratio ratio' ≡ Ordering.Equal) × (label < label'))

-- column j has a ratio, and is c or c goes before it
abbrev pub LosesRatioTest : (ℕ → ℕ) → ℕ → ℕ → Fraction → Option Fraction → Type 0
LosesRatioTest label c j least ratio = MatchOption ratio ⊥ (λ y. (j ≡ c) ⊎ WinsRatioTest (label c) (label j) least y)

-- the dual ratio test: the ratio of c is the least one of the candidates, all of which have one
pub record HasLeastRatio (n : ℕ) (costs entries : ℕ → Fraction) (label : ℕ → ℕ) (c : ℕ) : Type 0 where
  pub least : Fraction
  pub ratio : ratio_of costs entries c ≡ Some least
  pub others : (j : ℕ) → IsCandidate n entries j → LosesRatioTest label c j least (ratio_of costs entries j)

-- c is the first candidate whose ratio passes 128 bits
pub record IsFirstWideRatio (n : ℕ) (costs entries : ℕ → Fraction) (c : ℕ) : Type 0 where
  pub wide : ratio_of costs entries c ≡ None
  pub earlier : (j : ℕ) → IsCandidate n entries j → j < c → IsSome (ratio_of costs entries j)

-- c is the entering column of the row: it has the least ratio, or its ratio is the first to pass 128 bits
abbrev pub IsEntering : ℕ → (ℕ → Fraction) → (ℕ → Fraction) → (ℕ → ℕ) → ℕ → Type 0
IsEntering n costs entries label c = HasLeastRatio n costs entries label c ⊎ IsFirstWideRatio n costs entries c

-- the pivot at (r, c) is legal: the leaving row r isn't the cost row and has a negative right side, and c is its
-- entering column
pub record IsLegal (q : Problem) (d : Dictionary) (r c : ℕ) : Type 0 where
  pub row_in : r < cost_row q
  pub infeasible : (d.place r (columns q)).num <ℤ pos 0
  pub candidate : IsCandidate (columns q) (d.place r) c
  pub entering : IsEntering (columns q) (d.place (cost_row q)) (d.place r) d.column_label c
