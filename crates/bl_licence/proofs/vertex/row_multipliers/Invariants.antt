use Rattle.bl_simplex.specs.Closing.{row_multiplier, cost_multiplier, basic_value}
use Rattle.bl_tableau.specs.Runs.{current}
use Rattle.bl_licence.specs.Steps.{IsListOf}
use Rattle.bl_licence.proofs.vertex.row_multipliers.Given as goal

abbrev pub invariant-loop-i : goal.invariant-loop-i
invariant-loop-i l = IsListOf l.i (row_multiplier l.tableau.problem (current l.tableau) l.row) l.multipliers.items
