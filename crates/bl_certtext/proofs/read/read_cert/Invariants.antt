use Rattle.std.proofs.Common.{length}
use Rattle.bl_certtext.specs.Steps.{IsReached}
use Rattle.bl_certtext.proofs.read.read_cert.Given as goal

abbrev pub invariant-loop-part : goal.invariant-loop-part
invariant-loop-part l = IsReached l.model l.bytes l.lines.items l.stack.items l.rest

abbrev pub decreases-loop-part : goal.decreases-loop-part
decreases-loop-part l = length l.rest
