use Rattle.std.proofs.Common.{◌+◌, List, [], take, drop, map, sym, subst}
use Rattle.std.specs.Prelude.{slice_index}
use Rattle.std.specs.Arc.{arc_value}
use Rattle.std.proofs.lemmas.Result.{err_from_is_err_and}
use Rattle.bl_terms.specs.Trees.{BareNode}
use Rattle.bl_leaf_terms.specs.Leaves.{ClosedLeaf}
use Rattle.bl_cert.specs.Order.{node_here, nodes_here}
use Rattle.bl_cert.specs.Placing.{PutsNodes, CannotPlace}
use Rattle.bl_cert.proofs.Placed.{puts-more, cannot-later, twice-weaker}
use Rattle.bl_cert.proofs.Preorder.{nodes-more, nodes-around}
use Rattle.bl_cert.proofs.tree.place_tree.Goals as goal

pub loop-node-preserved : goal.loop-node-preserved
loop-node-preserved c =
    let b = c.args.book.now.ledger.book in
    let order = c.args.order.now in
    let i = c.loop-node.node-index in
    let text = c.args.text.now.items in
    let new = map arc_value c.place_node.new.steps.items in
    let more = c.place_node.new.text.items in
    subst (λ (ns : List (BareNode ClosedLeaf)). PutsNodes c.args.rows ns [] text new more)
    (nodes-more b order i c.loop-node-test.true)
    (puts-more c.args.rows (nodes_here b (take i order)) (node_here b (slice_index order i)) []
    (map arc_value c.loop-node.steps.items) new text c.loop-node.text.items more c.loop-node.invariant
    c.in_ok-place_node.ensures.ok)

pub returns-in_err-place_node-clause-err : goal.returns-in_err-place_node-clause-err
returns-in_err-place_node-clause-err c =
    let b = c.args.book.now.ledger.book in
    let n = c.args.rows in
    let order = c.args.order.now in
    let i = c.loop-node.node-index in
    let here = node_here b (slice_index order i) in
    let later : CannotPlace n here (map arc_value c.loop-node.steps.items) → CannotPlace n (nodes_here b order) [] =
    λ cannot. subst (λ (ns : List (BareNode ClosedLeaf)). CannotPlace n ns [])
    (sym (nodes-around b order i c.loop-node-test.true))
    (cannot-later n (nodes_here b (take i order)) here (nodes_here b (drop (i + 1) order)) []
    (map arc_value c.loop-node.steps.items) c.args.text.now.items c.loop-node.text.items c.loop-node.invariant cannot)
    in
    let p = err_from_is_err_and c.from_residual.result c.from_residual.ensures.1 in
    rw (p.1, p.2) (twice-weaker c.in_err-place_node.field-0.0 later c.in_err-place_node.ensures.err)
