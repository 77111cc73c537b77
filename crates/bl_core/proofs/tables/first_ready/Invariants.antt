use Rattle.std.proofs.Common.{ℕ, ◌<◌, ◌≤◌}
use Rattle.bl_core.specs.Tables.{IsReadyRow}
use Rattle.bl_core.proofs.tables.first_ready.Given as goal

abbrev pub invariant-loop-node : goal.invariant-loop-node
invariant-loop-node l = (j : ℕ) → l.from ≤ j → j < l.node → ¬ IsReadyRow l.rows j
