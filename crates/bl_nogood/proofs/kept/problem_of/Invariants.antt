use Rattle.std.proofs.Common.{◌≡◌}
use Rattle.std.specs.Prelude.{take}
use Rattle.bl_nogood.proofs.kept.problem_of.Given as goal

abbrev pub invariant-loop-row : goal.invariant-loop-row
invariant-loop-row l = l.problem ≡ record { rows = take l.row-index l.rows; cost = l.model.cost; area = l.area }
