use Rattle.std.proofs.Common.{◌≡◌}
use Rattle.bl_terms.specs.Programs.{is_in_lower}
use Rattle.bl_model.proofs.join.stands_in_lower.Given as goal

-- whether one of the first rows stands in the column
abbrev pub invariant-loop-i : goal.invariant-loop-i
invariant-loop-i l = l.stands ≡ is_in_lower l.rows l.i l.column
