use Rattle.std.proofs.Common.{◌≡◌, ◌++◌, take}
use Rattle.bl_mps_write.specs.Canonical.{row_lines}
use Rattle.bl_mps_write.proofs.sections.put_rows.Given as goal

abbrev pub invariant-loop-row : goal.invariant-loop-row
invariant-loop-row l = l.text.items ≡ l.initial.text.items ++ row_lines (take l.row-index l.rows)
