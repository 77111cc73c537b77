-- Internal: what the steps of the tests compute.
use Rattle.std.specs.Prelude.{◌≡◌, ℕ, zero, suc, ◌+◌, ◌*◌, ◌^◌, ◌<◌, ◌≤◌, ◌⊎◌, if◌then◌else◌, Option, Some, None, ℤ}
use Rattle.std.specs.Prelude.{pos, ◌+ℤ◌, ◌-ℤ◌, ◌*ℤ◌, ◌≤ℤ◌, ◌<ℤ◌, unsigned_abs, false, List, length, ◌++◌}
use Rattle.bl_whole.specs.Sums.{component, sum_below}
use Rattle.bl_limits.specs.declared.TheConstants.{MAX_NUMBER, MAX_PROOF_NUMBER}
use Rattle.bl_terms.specs.Bounds.{Problem, linear_at}
use Rattle.bl_simplex.specs.Fractions.{Fraction, IsReduced}
use Rattle.bl_simplex.specs.Rationals.{fraction_at, common_denominator, times_multiple, IsAtMost}
use Rattle.bl_simplex.specs.Dictionaries.{Dictionary, columns, start_at, sign_at, opening}
use Rattle.bl_simplex.specs.Pivots.{replay, FailsFirstAt}
use Rattle.bl_simplex.specs.Licences.{AreSteps}
use Rattle.bl_tableau.specs.Runs.{Run}
use Rattle.bl_tableau.specs.Cells.{AreReduced}
use Rattle.bl_simplex.specs.LegalPivots.{IsLegal}
use Rattle.bl_simplex.specs.Closing.{Closes}

-- column j, times the common denominator
abbrev pub scaled_column : Problem → ℕ → (ℕ → Fraction) → ℕ → ℤ
scaled_column q common f j = start_at q j *ℤ pos common +ℤ sign_at q j *ℤ times_multiple common (f j)

-- the list has each column, times the common denominator
pub record IsScaledPoint (q : Problem) (common : ℕ) (f : ℕ → Fraction) (xs : List ℤ) : Type 0 where
  pub size : length xs ≡ columns q
  pub each : (j : ℕ) → j < columns q → component xs j ≡ scaled_column q common f j

-- the list holds the fractions f 0 to f (n - 1)
pub record IsListOf (n : ℕ) (f : ℕ → Fraction) (fs : List Fraction) : Type 0 where
  pub size : length fs ≡ n
  pub each : (k : ℕ) → k < n → fraction_at fs k ≡ f k
  pub reduced : AreReduced fs

-- the fractions, made whole by their common denominator, all within the limit of proof numbers
pub record AreWhole (fs : List Fraction) (common : ℕ) (xs : List ℤ) : Type 0 where
  pub multiple : common ≡ common_denominator (length fs) (fraction_at fs)
  pub small : pos common ≤ℤ MAX_PROOF_NUMBER
  pub size : length xs ≡ length fs
  pub each : (k : ℕ) → k < length fs → component xs k ≡ times_multiple common (fraction_at fs k)
  pub numbers : (k : ℕ) → k < length fs
      → pos (unsigned_abs (times_multiple common (fraction_at fs k))) ≤ℤ MAX_PROOF_NUMBER

-- the fraction is above the whole number
abbrev pub IsAbove : ℤ → Fraction → Type 0
IsAbove least x = (least *ℤ pos x.den) <ℤ x.num

-- the fraction is from 0 to the whole number
abbrev pub IsBetween : ℤ → Fraction → Type 0
IsBetween most x = (pos 0 ≤ℤ x.num) × IsAtMost x most

-- made whole by their common denominator, the fractions or that denominator pass the limit of proof numbers
abbrev pub PassesLimit : ℕ → (ℕ → Fraction) → Type 0
PassesLimit n f =
    let common = common_denominator n f in
    (MAX_PROOF_NUMBER <ℤ pos common)
    ⊎ ((i : ℕ) × (i < n) × (MAX_PROOF_NUMBER <ℤ pos (unsigned_abs (times_multiple common (f i)))))

-- the dictionary doesn't close the box, and the pivot is legal there
pub record MayPivot (q : Problem) (u : Option ℤ) (d : Dictionary) (p : ℕ × ℕ) : Type 0 where
  pub open_box : ¬ Closes q u d
  pub legal : IsLegal q d p.0 p.1

-- the size of a column times the common denominator
abbrev pub scaled_size : ℕ
scaled_size = 3 * (MAX_NUMBER * 2 ^ 50)

-- the pivots were added, and the tableau is otherwise as before
pub record Took (start : Run) (pivots : List (ℕ × ℕ)) (now : Run) : Type 0 where
  pub problem : now.problem ≡ start.problem
  pub most : now.most ≡ start.most
  pub fresh : now.spent ≡ false
  pub added : now.pivots ≡ start.pivots ++ pivots

-- the first pivots are steps from the opening dictionary, and the last one is legal there and passes 128 bits first at
-- (row, column)
pub record EndsInWidth (q : Problem) (u : Option ℤ) (front : List (ℕ × ℕ)) (last : ℕ × ℕ)
    (row column : ℕ) : Type 0 where
  pub steps : AreSteps q u (opening q) front
  pub may : MayPivot q u (replay (opening q) front) last
  pub wide : FailsFirstAt q (replay (opening q) front) last.0 last.1 row column
