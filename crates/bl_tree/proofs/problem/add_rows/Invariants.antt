use Rattle.std.proofs.Common.{◌≡◌, ◌++◌}
use Rattle.std.specs.Prelude.{map, take}
use Rattle.bl_terms.specs.Programs.{inequality}
use Rattle.bl_tree.proofs.problem.add_rows.Given as goal

abbrev pub invariant-loop-row : goal.invariant-loop-row
invariant-loop-row l = l.problem ≡ record l.initial.problem {
  rows = l.initial.problem.rows ++ map inequality (take l.row-index l.rows);
}
