use Rattle.std.proofs.Common.{reverse}
use Rattle.bl_cert.proofs.Preorder.{IsOnTheWay, to_come}
use Rattle.bl_cert.proofs.order.preorder.Given as goal

abbrev pub invariant-loop-node : goal.invariant-loop-node
invariant-loop-node l = IsOnTheWay l.book.ledger.book l.order.items (reverse l.stack.items)

abbrev pub decreases-loop-node : goal.decreases-loop-node
decreases-loop-node l = to_come l.book.ledger.book (reverse l.stack.items)
