use Rattle.std.proofs.Common.{◌≡◌, map, take}
use Rattle.bl_model.specs.Build.{dense_column}
use Rattle.bl_model.proofs.join.dense_columns.Given as goal

abbrev pub invariant-loop-column : goal.invariant-loop-column
invariant-loop-column l = l.dense.items ≡ map (λ c. dense_column l.row_count c) (take l.column-index l.columns)
