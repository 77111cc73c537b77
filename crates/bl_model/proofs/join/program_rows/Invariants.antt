use Rattle.std.proofs.Common.{◌≡◌, ◌++◌, drop}
use Rattle.bl_model.specs.Build.{rows_from}
use Rattle.bl_model.proofs.join.program_rows.Given as goal

-- the rows so far and those of the text's rows that are left are all rows
abbrev pub invariant-loop-at : goal.invariant-loop-at
invariant-loop-at l =
    l.rows.items ++ rows_from l.columns l.lower_rows l.at (drop l.at l.text_rows)
    ≡ rows_from l.columns l.lower_rows 0 l.text_rows
