-- Trusted: the proofs that need no search, each of one row alone or of the cost alone, and what they say of a box that
-- has but one point.
use Rattle.std.specs.Prelude.{◌≡◌, ℕ, ◌<◌, ◌⊎◌, ◌↔◌, Option, Some, None, ℤ, pos, ◌<ℤ◌, List, length, slice_set}
use Rattle.bl_whole.specs.Sums.{component, dot}
use Rattle.bl_terms.specs.Points.{IsOnePoint, zeros}
use Rattle.bl_terms.specs.Bounds.{Problem, IsPoint, Multipliers, Proves}

-- the multiplier 1 for row r and 0 for all others, the cost without weight
abbrev pub row_alone : Problem → ℕ → Multipliers
row_alone q r = record { den = pos 0; mult = slice_set (zeros (length q.rows)) r (pos 1) }

-- the cost with weight 1, and no row
abbrev pub cost_alone : Problem → Multipliers
cost_alone q = record { den = pos 1; mult = zeros (length q.rows) }

-- no row alone is a proof
abbrev pub NoRowAlone : Problem → Option ℤ → Type 0
NoRowAlone q u = (r : ℕ) → r < length q.rows → ¬ Proves q u (row_alone q r)

-- r is the first row that alone is a proof
pub record IsFirstRowAlone (q : Problem) (u : Option ℤ) (r : ℕ) : Type 0 where
  pub row_in : r < length q.rows
  pub proves : Proves q u (row_alone q r)
  pub earlier : (k : ℕ) → k < r → ¬ Proves q u (row_alone q k)

-- the first row that alone is a proof, else the cost alone; none where there is neither
abbrev pub IsPlainProof : Problem → Option ℤ → Option Multipliers → Type 0
IsPlainProof q u None = NoRowAlone q u × ¬ Proves q u (cost_alone q)
IsPlainProof q u (Some w) =
    ((r : ℕ) × IsFirstRowAlone q u r × (w ≡ row_alone q r))
    ⊎ (NoRowAlone q u × Proves q u (cost_alone q) × (w ≡ cost_alone q))

-- the cost is below the cutoff; without one nothing is asked
abbrev pub CostsLess : Option ℤ → ℤ → Type 0
CostsLess None v = Unit {0}
CostsLess (Some u) v = v <ℤ u

-- z is a point of the box that meets the rows and costs less than the cutoff
pub record IsBetterPoint (q : Problem) (u : Option ℤ) (z : List ℤ) : Type 0 where
  pub point : IsPoint q z
  pub cost : CostsLess u (dot q.cost z)

-- on a box of one point there is no plain proof exactly where that point meets the rows and costs less than the cutoff
abbrev pub OnePointClause : Problem → Option ℤ → Option Multipliers → Type 0
OnePointClause q u o = IsOnePoint q.area → (o ≡ None) ↔ IsBetterPoint q u q.area.lo
