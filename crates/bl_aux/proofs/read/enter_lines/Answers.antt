use Rattle.std.proofs.Common.{arith}
use Rattle.bl_aux.proofs.LineCounts.{length-lines_of}
use Rattle.bl_aux.proofs.read.enter_lines.Goals as goal

pub overflow_add-number : goal.overflow_add-number
overflow_add-number c = omega (arith, c.loop-line.invariant.room, length-lines_of c.args.text.now)
