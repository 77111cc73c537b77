-- Trusted: what licenses a solver to split a box rather than to close it or to take a point of it: a
-- fractional point that meets the rows below the cutoff, or a run of legal pivots that passes 128 bits, the
-- limit of pivots or the limit of the proof numbers.
use Rattle.std.specs.Prelude.{◌≡◌, ◌≢◌, ℕ, ◌+◌, ◌*◌, ◌<◌, ◌⊎◌, Option, Some, None, ℤ, pos, ◌-ℤ◌, ◌≤ℤ◌, ◌<ℤ◌, List, []}
use Rattle.std.specs.Prelude.{◌∷◌, ◌++◌, length}
use Rattle.bl_whole.specs.Sums.{component}
use Rattle.bl_limits.specs.declared.TheConstants.{MAX_PROOF_NUMBER, PIVOTS_AT_LEAST, PIVOTS_PER_LINE}
use Rattle.bl_terms.specs.Bounds.{Problem, linear_at}
use Rattle.bl_simplex.specs.Fractions.{Fraction, IsReduced, whole_fraction}
use Rattle.bl_simplex.specs.Rationals.{rational_sum, rational_product, rational_total, IsAtMost, fraction_at}
use Rattle.bl_simplex.specs.Rationals.{common_denominator}
use Rattle.bl_simplex.specs.Dictionaries.{Dictionary, columns, cost_row, start_at, sign_at, opening}
use Rattle.bl_simplex.specs.Pivots.{pivoted, replay, IsNarrowPivot, FailsFirstAt}
use Rattle.bl_simplex.specs.LegalPivots.{IsLegal}
use Rattle.bl_simplex.specs.Closing.{Closes, ClosesByCost, ClosesByRow, IsFirstClosingRow, row_multiplier}
use Rattle.bl_simplex.specs.Closing.{cost_multiplier, basic_value, PassLimit}

-- ---- a fractional point

-- column j at the distance f j from its start, in the direction in which it leaves it
abbrev pub moved : Problem → (ℕ → Fraction) → ℕ → Fraction
moved q f j = rational_sum (whole_fraction (start_at q j)) (rational_product (whole_fraction (sign_at q j)) (f j))

-- the value of coefficients at a rational point
abbrev pub rational_dot : List ℤ → (ℕ → Fraction) → Fraction
rational_dot cs z = rational_total (length cs) (λ j. rational_product (whole_fraction (component cs j)) (z j))

-- the cost is at most u - 1; without a cutoff nothing is asked
abbrev pub IsBelowCutoff : Option ℤ → Fraction → Type 0
IsBelowCutoff None cost = Unit {0}
IsBelowCutoff (Some u) cost = IsAtMost cost (u -ℤ pos 1)

-- the distances of the columns from their starts, one reduced fraction for each column and not all of them whole, stay
-- in the box;
-- there every row holds and the cost is below the cutoff. Their common denominator is a proof number within its limit
pub record IsFractional (q : Problem) (u : Option ℤ) (fs : List Fraction) : Type 0 where
  pub size : length fs ≡ columns q
  pub reduced : (j : ℕ) → j < columns q → IsReduced (fraction_at fs j)
  pub not_whole : (j : ℕ) × (j < columns q) × ((fraction_at fs j).den ≢ 1)
  pub least : (j : ℕ) → j < columns q → pos 0 ≤ℤ (fraction_at fs j).num
  pub most : (j : ℕ) → j < columns q → IsAtMost (fraction_at fs j) (component q.area.hi j -ℤ component q.area.lo j)
  pub common : pos (common_denominator (columns q) (fraction_at fs)) ≤ℤ MAX_PROOF_NUMBER
  pub rows : (i : ℕ) → i < length q.rows
      → IsAtMost (rational_dot (linear_at q.rows i).coef (moved q (fraction_at fs))) (linear_at q.rows i).rhs
  pub cost : IsBelowCutoff u (rational_dot q.cost (moved q (fraction_at fs)))

-- ---- runs of pivots

-- the dictionary doesn't close the box, and the pivot p is legal there and narrow
pub record IsStep (q : Problem) (u : Option ℤ) (d : Dictionary) (p : ℕ × ℕ) : Type 0 where
  pub open_box : ¬ Closes q u d
  pub legal : IsLegal q d p.0 p.1
  pub narrow : IsNarrowPivot q d p.0 p.1

-- each pivot is such a step in the dictionary that the earlier ones give
abbrev pub AreSteps : Problem → Option ℤ → Dictionary → List (ℕ × ℕ) → Type 0
AreSteps q u d [] = Unit {0}
AreSteps q u d (p ∷ ps) = IsStep q u d p × AreSteps q u (pivoted d p.0 p.1) ps

-- all pivots but the last are steps; the last is legal in a dictionary that doesn't close, and passes 128 bits first at
-- (row, column)
pub record PassesWidth (q : Problem) (u : Option ℤ) (pivots : List (ℕ × ℕ)) (row column : ℕ) : Type 0 where
  pub front : List (ℕ × ℕ)
  pub last : ℕ × ℕ
  pub split : pivots ≡ front ++ last ∷ []
  pub steps : AreSteps q u (opening q) front
  pub open_box : ¬ Closes q u (replay (opening q) front)
  pub legal : IsLegal q (replay (opening q) front) last.0 last.1
  pub wide : FailsFirstAt q (replay (opening q) front) last.0 last.1 row column

-- how many pivots a relaxation may take: the rows are those of the problem alone
abbrev pub pivot_limit : Problem → ℕ
pivot_limit q = PIVOTS_AT_LEAST + PIVOTS_PER_LINE * (length q.rows + columns q)

-- as many steps as the limit allows, none of whose dictionaries closes the box, the last one included
pub record PassesPivots (q : Problem) (u : Option ℤ) (pivots : List (ℕ × ℕ)) : Type 0 where
  pub count : length pivots ≡ pivot_limit q
  pub steps : AreSteps q u (opening q) pivots
  pub open_box : ¬ Closes q u (replay (opening q) pivots)

-- the dictionary closes the box, and the proof numbers that it gives pass their limit: those of the first
-- closing row, else of the cost row
abbrev pub ClosesPastLimit : Problem → Option ℤ → Dictionary → Type 0
ClosesPastLimit q u d =
    ((r : ℕ) × IsFirstClosingRow q d r × PassLimit q (row_multiplier q d r))
    ⊎ (((r : ℕ) → ¬ ClosesByRow q d r) × ClosesByCost q u d × PassLimit q (cost_multiplier q d))

-- no right side but the cost row's is negative
abbrev pub IsFeasible : Problem → Dictionary → Type 0
IsFeasible q d = (i : ℕ) → i < cost_row q → pos 0 ≤ℤ (d.place i (columns q)).num

-- the dictionary is an optimum that doesn't close the box, and its point's common denominator passes the limit
pub record IsPointPastLimit (q : Problem) (u : Option ℤ) (d : Dictionary) : Type 0 where
  pub open_box : ¬ Closes q u d
  pub feasible : IsFeasible q d
  pub common : MAX_PROOF_NUMBER <ℤ pos (common_denominator (columns q) (basic_value q d))

-- steps that lead to a dictionary of one of these two kinds
pub record PassesNumbers (q : Problem) (u : Option ℤ) (pivots : List (ℕ × ℕ)) : Type 0 where
  pub steps : AreSteps q u (opening q) pivots
  pub ending : ClosesPastLimit q u (replay (opening q) pivots) ⊎ IsPointPastLimit q u (replay (opening q) pivots)
