-- Internal: the parts of a bound proof's test, and its partial sums.
use Rattle.std.specs.Prelude.{◌≡◌, ℕ, ◌<◌, ℤ, pos, ◌-ℤ◌, ◌*ℤ◌, ◌<ℤ◌, Option, Some, None, List, length}
use Rattle.bl_whole.specs.Sums.{component, sum_below}
use Rattle.bl_terms.specs.Bounds.{Problem, linear_at, Multipliers, AreMultipliers, least_product}

-- the first m rows' part of a reduced cost
abbrev pub rows_part : Problem → Multipliers → ℕ → ℕ → ℤ
rows_part q w m j = sum_below m (λ i. component w.mult i *ℤ component (linear_at q.rows i).coef j)

-- a multiplier for each row, numbers within their limits, and without a cutoff no weight of the cost
pub record IsWellFormed (q : Problem) (u : Option ℤ) (w : Multipliers) : Type 0 where
  pub rows : length w.mult ≡ length q.rows
  pub multipliers : AreMultipliers w
  pub free : u ≡ None → w.den ≡ pos 0

-- the sum of the least values of the first n coefficients times their columns, and of all
abbrev pub least_part : List ℤ → List ℤ → List ℤ → ℕ → ℤ
least_part coefs lo hi n = sum_below n (λ j. least_product (component coefs j) (component lo j) (component hi j))

abbrev pub least_value : List ℤ → List ℤ → List ℤ → ℤ
least_value coefs lo hi = least_part coefs lo hi (length coefs)

-- the sum of the first m right-hand sides times their multipliers
abbrev pub rhs_part : Problem → Multipliers → ℕ → ℤ
rhs_part q w m = sum_below m (λ i. component w.mult i *ℤ (linear_at q.rows i).rhs)

-- row r alone passes 0, and the cost alone passes the cutoff less 1
abbrev pub RowCloses : Problem → ℕ → Type 0
RowCloses q r = (linear_at q.rows r).rhs <ℤ least_value (linear_at q.rows r).coef q.area.lo q.area.hi

abbrev pub CostCloses : Problem → Option ℤ → Type 0
CostCloses q None = ⊥
CostCloses q (Some u) = (u -ℤ pos 1) <ℤ least_value q.cost q.area.lo q.area.hi

-- r is the first row that alone passes 0
pub record IsFirstClosing (q : Problem) (r : ℕ) : Type 0 where
  pub row_in : r < length q.rows
  pub closes : RowCloses q r
  pub earlier : (k : ℕ) → k < r → ¬ RowCloses q k
