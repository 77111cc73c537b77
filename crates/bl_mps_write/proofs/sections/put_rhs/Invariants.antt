use Rattle.std.proofs.Common.{◌≡◌, ◌++◌, take}
use Rattle.bl_mps_write.specs.Canonical.{rhs_lines}
use Rattle.bl_mps_write.proofs.sections.put_rhs.Given as goal

abbrev pub invariant-loop-row : goal.invariant-loop-row
invariant-loop-row l = l.text.items ≡ l.initial.text.items ++ rhs_lines (take l.row-index l.rows)
