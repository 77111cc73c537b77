use Rattle.std.proofs.Common.{◌+◌, length}
use Rattle.bl_simplex.specs.Dictionaries.{opening_number}
use Rattle.bl_tableau.specs.Opening.{Appends}
use Rattle.bl_tableau.proofs.opening.push_range.Given as goal

abbrev pub invariant-loop-j : goal.invariant-loop-j
invariant-loop-j l = Appends l.fn.cells.items l.cells.items l.j (opening_number l.problem (length l.problem.rows + l.k))
