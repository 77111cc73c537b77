-- Internal: a run of steps, as a tableau shows it, and the proof that its last dictionary gives.
use Rattle.std.specs.Prelude.{◌≡◌, ◌⊎◌, ℕ, Option, Some, None, ℤ, false, List}
use Rattle.bl_terms.specs.Bounds.{Problem, Multipliers}
use Rattle.bl_simplex.specs.Fractions.{Fraction}
use Rattle.bl_simplex.specs.Dictionaries.{Dictionary, opening}
use Rattle.bl_simplex.specs.Closing.{Closes, PassLimit}
use Rattle.bl_simplex.specs.Licences.{AreSteps, IsFeasible}
use Rattle.bl_tableau.specs.Runs.{Run}
use Rattle.bl_licence.specs.declared.why.Why.TheVariants.{Large}
use Rattle.bl_duality.specs.Laws.{AreMadeWhole}
use Rattle.bl_relax.specs.declared.relaxed.Relaxed.{Relaxed}
use Rattle.bl_relax.specs.declared.relaxed.Relaxed.TheVariants.{Closed, Stuck}

-- the run is of the problem, has not passed 128 bits, and each of its pivots is a step
pub record IsRunOfSteps (q : Problem) (u : Option ℤ) (run : Run) : Type 0 where
  pub problem : run.problem ≡ q
  pub fresh : run.spent ≡ false
  pub steps : AreSteps q u (opening q) run.pivots

-- the dictionary closes the box, or no right side is negative but perhaps that of the cost row
abbrev pub IsAtEnd : Problem → Option ℤ → Dictionary → Type 0
IsAtEnd q u d = Closes q u d ⊎ IsFeasible q d

-- the proof has these multipliers of the rows, made whole within the limit of proof numbers, and this weight of the
-- cost
pub record IsProofOf (q : Problem) (den : ℤ) (f : ℕ → Fraction) (proof : Multipliers) : Type 0 where
  pub weight : proof.den ≡ den
  pub within : ¬ PassLimit q f
  pub whole : AreMadeWhole q f proof.mult

-- the answer is the proof, or the licence of the pivots' numbers where there is none
abbrev pub IsClosed : List (ℕ × ℕ) → Option Multipliers → Relaxed → Type 0
IsClosed pivots None answer = answer ≡ Stuck (Large pivots)
IsClosed pivots (Some proof) answer = answer ≡ Closed proof
