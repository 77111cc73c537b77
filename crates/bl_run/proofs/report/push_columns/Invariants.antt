use Rattle.std.proofs.Common.{◌≡◌, ◌++◌, drop}
use Rattle.bl_run.specs.Report.{column_lines}
use Rattle.bl_run.proofs.report.push_columns.Given as goal

-- the lines so far and those of the columns that are left are all lines
abbrev pub invariant-loop-at : goal.invariant-loop-at
invariant-loop-at l = l.text.items ++ column_lines (drop l.at l.columns)
    (drop l.at l.point) ≡ l.fn.text.items ++ column_lines l.columns l.point
