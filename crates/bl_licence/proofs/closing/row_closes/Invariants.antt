use Rattle.std.proofs.Common.{ℕ, ◌<◌, pos, ◌≤ℤ◌}
use Rattle.bl_tableau.specs.Runs.{current}
use Rattle.bl_licence.proofs.closing.row_closes.Given as goal

abbrev pub invariant-loop-j : goal.invariant-loop-j
invariant-loop-j l = (k : ℕ) → k < l.j → pos 0 ≤ℤ ((current l.tableau).place l.row k).num
