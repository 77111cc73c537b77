use Rattle.std.proofs.Common.{◌≡◌, ℕ, true, subst}
use Rattle.bl_simplex.specs.Pivots.{EndsWide}
use Rattle.bl_tableau.specs.Runs.{Run}
use Rattle.bl_tableau.proofs.tableau.Tableau.pivots.Goals as goal

pub returns-clause-failed : goal.returns-clause-failed
returns-clause-failed c =
    let Failed : Run → Type 0 = λ run. run.spent ≡ true
    → (row : ℕ) × (column : ℕ) × EndsWide run.problem run.pivots row column in
    subst Failed c.self.view_is c.self.invariant.failed
