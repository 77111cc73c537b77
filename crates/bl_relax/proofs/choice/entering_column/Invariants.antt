use Rattle.bl_simplex.specs.Dictionaries.{cost_row}
use Rattle.bl_tableau.specs.Runs.{current}
use Rattle.bl_relax.specs.Choices.{IsBestSoFar}
use Rattle.bl_relax.proofs.choice.entering_column.Given as goal

abbrev pub invariant-loop-j : goal.invariant-loop-j
invariant-loop-j l =
    let d = current l.tableau in
    IsBestSoFar l.j (d.place (cost_row l.tableau.problem)) (d.place l.row) d.column_label l.best
