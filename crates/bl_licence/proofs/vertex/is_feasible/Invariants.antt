use Rattle.std.proofs.Common.{ℕ, ◌<◌, pos, ◌≤ℤ◌}
use Rattle.bl_simplex.specs.Dictionaries.{columns}
use Rattle.bl_tableau.specs.Runs.{current}
use Rattle.bl_licence.proofs.vertex.is_feasible.Given as goal

abbrev pub invariant-loop-i : goal.invariant-loop-i
invariant-loop-i l = (k : ℕ) → k < l.i → pos 0 ≤ℤ ((current l.tableau).place k (columns l.tableau.problem)).num
