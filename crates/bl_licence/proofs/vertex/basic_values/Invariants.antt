use Rattle.bl_simplex.specs.Closing.{row_multiplier, cost_multiplier, basic_value}
use Rattle.bl_tableau.specs.Runs.{current}
use Rattle.bl_licence.specs.Steps.{IsListOf}
use Rattle.bl_licence.proofs.vertex.basic_values.Given as goal

abbrev pub invariant-loop-j : goal.invariant-loop-j
invariant-loop-j l = IsListOf l.j (basic_value l.tableau.problem (current l.tableau)) l.values.items
