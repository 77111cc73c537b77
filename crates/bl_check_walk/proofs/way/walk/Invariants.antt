use Rattle.std.proofs.Common.{length}
use Rattle.bl_check_walk.specs.Walks.{IsReached}
use Rattle.bl_check_walk.proofs.way.walk.Given as goal

abbrev pub invariant-loop-part : goal.invariant-loop-part
invariant-loop-part g l = IsReached (g.J.Judge.says l.judge l.model) l.model l.bytes l.number l.stack.items l.rest

abbrev pub decreases-loop-part : goal.decreases-loop-part
decreases-loop-part g l = length l.rest
