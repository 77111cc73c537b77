use Rattle.std.proofs.Common.{◌≡◌, ◌++◌, take}
use Rattle.bl_mps_write.specs.Canonical.{coefficient_lines}
use Rattle.bl_mps_write.proofs.sections.put_coefficients.Given as goal

abbrev pub invariant-loop-row : goal.invariant-loop-row
invariant-loop-row l =
    l.text.items ≡ l.initial.text.items ++ coefficient_lines l.rows l.name (take l.row-index l.entries)
