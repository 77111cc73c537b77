use Rattle.std.proofs.Common.{[], take, map}
use Rattle.std.specs.Arc.{arc_value}
use Rattle.bl_cert.specs.Order.{nodes_here}
use Rattle.bl_cert.specs.Placing.{PutsNodes}
use Rattle.bl_cert.proofs.tree.place_tree.Given as goal

abbrev pub invariant-loop-node : goal.invariant-loop-node
invariant-loop-node l =
    PutsNodes l.rows (nodes_here l.book.ledger.book (take l.node-index l.order)) [] l.fn.text.items
    (map arc_value l.steps.items) l.text.items
