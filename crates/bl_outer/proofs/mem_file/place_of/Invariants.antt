use Rattle.std.proofs.Common.{◌≢◌, ℕ, ◌<◌}
use Rattle.bl_outer.specs.MemFile.{name_at}
use Rattle.bl_outer.proofs.mem_file.place_of.Given as goal

abbrev pub invariant-loop-i : goal.invariant-loop-i
invariant-loop-i l = (j : ℕ) → j < l.i → name_at l.files j ≢ l.name
