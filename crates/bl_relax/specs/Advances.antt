-- Internal: what one more pivot leads to.
use Rattle.std.specs.Prelude.{◌≡◌, ◌+◌, Option, ℤ, length}
use Rattle.bl_terms.specs.Bounds.{Problem}
use Rattle.bl_simplex.specs.Licences.{PassesWidth}
use Rattle.bl_tableau.specs.Runs.{Run, current}
use Rattle.bl_relax.specs.Runs.{IsRunOfSteps, IsAtEnd}
use Rattle.bl_relax.specs.declared.relaxation.Advance.{Advance}
use Rattle.bl_relax.specs.declared.relaxation.Advance.TheVariants.{Taken, Wide, Last}

-- a run of steps that is one pivot longer
pub record IsLonger (q : Problem) (u : Option ℤ) (old new : Run) : Type 0 where
  pub run : IsRunOfSteps q u new
  pub count : length new.pivots ≡ length old.pivots + 1
  pub most : new.most ≡ old.most

abbrev pub AdvancesTo : Problem → Option ℤ → Run → Run → Advance → Type 0
AdvancesTo q u old new Taken = IsLonger q u old new
AdvancesTo q u old new (Wide row column) = PassesWidth q u new.pivots row column
AdvancesTo q u old new Last = (new ≡ old) × IsAtEnd q u (current new)
