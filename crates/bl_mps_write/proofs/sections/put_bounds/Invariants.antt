use Rattle.std.proofs.Common.{◌≡◌, ◌++◌, take}
use Rattle.bl_mps_write.specs.Canonical.{bound_lines}
use Rattle.bl_mps_write.proofs.sections.put_bounds.Given as goal

abbrev pub invariant-loop-column : goal.invariant-loop-column
invariant-loop-column l = l.text.items ≡ l.initial.text.items ++ bound_lines (take l.column-index l.columns)
