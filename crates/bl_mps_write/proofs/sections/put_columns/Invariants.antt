use Rattle.std.proofs.Common.{◌≡◌, ◌++◌, take}
use Rattle.bl_mps_write.specs.Canonical.{column_lines}
use Rattle.bl_mps_write.proofs.sections.put_columns.Given as goal

abbrev pub invariant-loop-column : goal.invariant-loop-column
invariant-loop-column l =
    l.text.items ≡ l.initial.text.items ++ column_lines l.objective l.rows (take l.column-index l.columns)
