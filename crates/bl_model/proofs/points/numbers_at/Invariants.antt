use Rattle.std.proofs.Common.{◌≡◌, take}
use Rattle.bl_terms.specs.Points.{values_at}
use Rattle.bl_model.proofs.points.numbers_at.Given as goal

abbrev pub invariant-loop-column : goal.invariant-loop-column
invariant-loop-column l = l.numbers.items ≡ values_at l.z (take l.column-index l.columns)
