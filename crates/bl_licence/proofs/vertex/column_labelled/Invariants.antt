use Rattle.std.proofs.Common.{◌≡◌, ◌≤◌}
use Rattle.bl_simplex.specs.Dictionaries.{columns}
use Rattle.bl_simplex.specs.Closing.{labelled}
use Rattle.bl_tableau.specs.Runs.{current}
use Rattle.bl_licence.proofs.vertex.column_labelled.Given as goal

abbrev pub invariant-loop-left : goal.invariant-loop-left
invariant-loop-left l = record {
  within : l.left ≤ columns l.tableau.problem;
  searched : labelled (columns l.tableau.problem) (current l.tableau).column_label l.label
      ≡ labelled l.left (current l.tableau).column_label l.label;
}

abbrev pub decreases-loop-left : goal.decreases-loop-left
decreases-loop-left l = l.left
