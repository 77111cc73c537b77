use Rattle.std.proofs.Common.{arith}
use Rattle.bl_outer.proofs.Entries.{absent_from}
use Rattle.bl_outer.proofs.mem_file.place_of.Goals as goal

pub returns-clause-absent : goal.returns-clause-absent
returns-clause-absent c = absent_from _ _ (λ j h. c.loop-i.invariant j (omega arith))
