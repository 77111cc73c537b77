use Rattle.std.proofs.Common.{◌+◌, length}
use Rattle.bl_simplex.specs.Dictionaries.{opening_number, columns}
use Rattle.bl_tableau.specs.Opening.{Appends}
use Rattle.bl_tableau.proofs.opening.push_cost.Given as goal

abbrev pub invariant-loop-number : goal.invariant-loop-number
invariant-loop-number l =
    Appends l.fn.cells.items l.cells.items l.number-index
    (opening_number l.problem (length l.problem.rows + columns l.problem))
