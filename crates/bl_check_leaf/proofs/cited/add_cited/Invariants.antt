use Rattle.std.proofs.Common.{◌≡◌, ◌++◌}
use Rattle.std.specs.Prelude.{take}
use Rattle.bl_check_leaf.specs.Kept.{cited_rows}
use Rattle.bl_check_leaf.proofs.cited.add_cited.Given as goal

abbrev pub invariant-loop-place : goal.invariant-loop-place
invariant-loop-place l = l.problem ≡ record l.initial.problem {
  rows = l.initial.problem.rows ++ cited_rows l.cuts (take l.place-index l.cited);
}
