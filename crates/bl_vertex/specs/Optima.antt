-- Internal: the optimum of a dictionary that doesn't close the box, and what its basic values are.
use Rattle.std.specs.Prelude.{◌≡◌, ◌≢◌, ℕ, ◌<◌, Option, ℤ, pos, ◌+ℤ◌, ◌-ℤ◌, ◌*ℤ◌, ◌≤ℤ◌, List, length}
use Rattle.bl_limits.specs.declared.TheConstants.{MAX_PROOF_NUMBER}
use Rattle.bl_whole.specs.Sums.{component}
use Rattle.bl_terms.specs.Bounds.{Problem, Fits}
use Rattle.bl_bound.specs.Plain.{IsBetterPoint}
use Rattle.bl_simplex.specs.Fractions.{Fraction}
use Rattle.bl_simplex.specs.Rationals.{fraction_at, common_denominator}
use Rattle.bl_simplex.specs.Dictionaries.{columns, start_at, sign_at, opening}
use Rattle.bl_simplex.specs.Pivots.{replay}
use Rattle.bl_simplex.specs.Closing.{Closes, basic_value}
use Rattle.bl_simplex.specs.Licences.{AreSteps, IsFeasible, IsFractional}
use Rattle.bl_licence.specs.Steps.{IsListOf, IsBetween}

-- the pivots are steps to a dictionary that doesn't close the box and has no negative right side but perhaps
-- that of the cost row; the fractions are its basic values, with a common denominator within the limit of proof numbers
pub record IsOpenOptimum (q : Problem) (u : Option ℤ) (pivots : List (ℕ × ℕ)) (fs : List Fraction) : Type 0 where
  pub steps : AreSteps q u (opening q) pivots
  pub open_box : ¬ Closes q u (replay (opening q) pivots)
  pub feasible : IsFeasible q (replay (opening q) pivots)
  pub values : IsListOf (columns q) (basic_value q (replay (opening q) pivots)) fs
  pub common : pos (common_denominator (columns q) (fraction_at fs)) ≤ℤ MAX_PROOF_NUMBER

-- some column's distance isn't whole
abbrev pub HasFraction : Problem → List Fraction → Type 0
HasFraction q fs = (j : ℕ) × (j < columns q) × ((fraction_at fs j).den ≢ 1)

-- every column's distance is whole
abbrev pub AreAllWhole : Problem → List Fraction → Type 0
AreAllWhole q fs = (j : ℕ) → j < columns q → (fraction_at fs j).den ≡ 1

-- each column stands at its whole distance from its start, in the direction in which it leaves it
pub record IsPointAt (q : Problem) (fs : List Fraction) (z : List ℤ) : Type 0 where
  pub size : length z ≡ columns q
  pub each : (j : ℕ) → j < columns q → component z j ≡ start_at q j +ℤ sign_at q j *ℤ (fraction_at fs j).num

-- THE LAWS

-- each column's distance from its start is one of its range
abbrev pub OptimumInBox : Type 0
OptimumInBox = (q : Problem) (u : Option ℤ) (pivots : List (ℕ × ℕ)) (fs : List Fraction) → Fits q
    → IsOpenOptimum q u pivots fs → (j : ℕ) → j < columns q
    → IsBetween (component q.area.hi j -ℤ component q.area.lo j) (fraction_at fs j)

-- an open optimum that isn't whole is a licence to split the box
abbrev pub FractionalOptimum : Type 0
FractionalOptimum = (q : Problem) (u : Option ℤ) (pivots : List (ℕ × ℕ)) (fs : List Fraction) → Fits q
    → IsOpenOptimum q u pivots fs → HasFraction q fs → IsFractional q u fs

-- a whole one is a point of the box that meets the rows below the cutoff
abbrev pub WholeOptimum : Type 0
WholeOptimum = (q : Problem) (u : Option ℤ) (pivots : List (ℕ × ℕ)) (fs : List Fraction) (z : List ℤ) → Fits q
    → IsOpenOptimum q u pivots fs → AreAllWhole q fs → IsPointAt q fs z → IsBetterPoint q u z
