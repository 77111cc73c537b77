use Rattle.std.proofs.Common.{◌≡◌, ◌≤◌}
use Rattle.bl_simplex.specs.Dictionaries.{cost_row}
use Rattle.bl_simplex.specs.Closing.{labelled}
use Rattle.bl_tableau.specs.Runs.{current}
use Rattle.bl_licence.proofs.vertex.row_labelled.Given as goal

abbrev pub invariant-loop-left : goal.invariant-loop-left
invariant-loop-left l = record {
  within : l.left ≤ cost_row l.tableau.problem;
  searched : labelled (cost_row l.tableau.problem) (current l.tableau).row_label l.label
      ≡ labelled l.left (current l.tableau).row_label l.label;
}

abbrev pub decreases-loop-left : goal.decreases-loop-left
decreases-loop-left l = l.left
