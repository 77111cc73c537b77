-- Trusted: the laws that a dictionary which closes the box gives a bound proof.
use Rattle.std.specs.Prelude.{◌≡◌, ℕ, ◌<◌, Option, ℤ, pos, List, length}
use Rattle.bl_whole.specs.Sums.{component}
use Rattle.bl_terms.specs.Bounds.{Problem, IsProblem, Proves}
use Rattle.bl_simplex.specs.Fractions.{Fraction}
use Rattle.bl_simplex.specs.Rationals.{common_denominator, times_multiple}
use Rattle.bl_simplex.specs.Dictionaries.{opening}
use Rattle.bl_simplex.specs.Pivots.{replay}
use Rattle.bl_simplex.specs.Closing.{ClosesByRow, ClosesByCost, PassLimit, row_multiplier, cost_multiplier}
use Rattle.bl_simplex.specs.Licences.{AreSteps}

-- the list has the rows' multipliers f, made whole by the least common multiple of their denominators
pub record AreMadeWhole (q : Problem) (f : ℕ → Fraction) (mult : List ℤ) : Type 0 where
  pub size : length mult ≡ length q.rows
  pub each : (i : ℕ) → i < length q.rows
      → component mult i ≡ times_multiple (common_denominator (length q.rows) f) (f i)

-- where steps lead to a dictionary that a row closes, the row's multipliers prove that no point of the box meets the
-- rows, unless they pass the limit of proof numbers
abbrev pub ClosingRowProves : Type 0
ClosingRowProves =
    (q : Problem) (u : Option ℤ) (pivots : List (ℕ × ℕ)) (r : ℕ) (mult : List ℤ)
    → let d = replay (opening q) pivots in
    IsProblem q → AreSteps q u (opening q) pivots → ClosesByRow q d r → ¬ PassLimit q (row_multiplier q d r)
    → AreMadeWhole q (row_multiplier q d r) mult → Proves q u (record { den = pos 0; mult = mult })

-- where steps lead to a dictionary that the cost row closes, the cost row's multipliers prove the cutoff, unless they
-- pass that limit
abbrev pub ClosingCostProves : Type 0
ClosingCostProves =
    (q : Problem) (u : Option ℤ) (pivots : List (ℕ × ℕ)) (mult : List ℤ)
    → let d = replay (opening q) pivots in
    let common = common_denominator (length q.rows) (cost_multiplier q d) in
    IsProblem q → AreSteps q u (opening q) pivots → ClosesByCost q u d → ¬ PassLimit q (cost_multiplier q d)
    → AreMadeWhole q (cost_multiplier q d) mult → Proves q u (record { den = pos common; mult = mult })
