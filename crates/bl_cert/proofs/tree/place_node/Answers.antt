use Rattle.std.proofs.Common.{List, map, sym, subst}
use Rattle.std.specs.Arc.{arc_value}
use Rattle.std.proofs.lemmas.Result.{on_ok_weaker}
use Rattle.bl_terms.specs.Trees.{BareNode}
use Rattle.bl_leaf_terms.specs.Leaves.{ClosedLeaf, Evidence}
use Rattle.bl_cert.specs.Placing.{PutsNodes, PutsLeaf}
use Rattle.bl_cert.proofs.Placed.{closed-here, divided-here, nothing-here, puts-leaf, puts-split, puts-none}
use Rattle.bl_cert.proofs.tree.place_node.Goals as goal

pub returns-in-Some-clause-ok : goal.returns-in-Some-clause-ok
returns-in-Some-clause-ok c =
    let b = c.args.book.now.ledger.book in
    let n = c.args.rows in
    let leaf = c.in-Some.leaf.now in
    let old = map arc_value c.args.steps.now.items in
    let text = c.args.text.now.items in
    let new = map arc_value c.place_leaf.new.steps.items in
    let more = c.place_leaf.new.text.items in
    on_ok_weaker c.place_leaf.result
    (λ h. subst (λ (ns : List (BareNode ClosedLeaf)). PutsNodes n ns old text new more)
    (sym (closed-here b c.args.node leaf c.in-Some.ensures))
    (puts-leaf n leaf old text new more
    (subst (λ (e : Evidence). PutsLeaf n e old text new more) c.leaf.ensures.value h)))
    c.place_leaf.ensures.ok

pub returns-in_ok-put_split-clause-ok : goal.returns-in_ok-put_split-clause-ok
returns-in_ok-put_split-clause-ok c =
    let b = c.args.book.now.ledger.book in
    let n = c.args.rows in
    let h = c.in-Some-split_of.halves.now in
    let old = map arc_value c.args.steps.now.items in
    let text = c.args.text.now.items in
    let more = c.put_split.new.text.items in
    subst (λ (ns : List (BareNode ClosedLeaf)). PutsNodes n ns old text old more)
    (sym (divided-here b c.args.node h c.in-Some-split_of.field-0-1 c.in-Some-split_of.field-0-2
    c.in-Some-split_of.ensures))
    (puts-split n h.column h.at old text more c.in_ok-put_split.ensures)

pub returns-in_default-split_of-clause-ok : goal.returns-in_default-split_of-clause-ok
returns-in_default-split_of-clause-ok c =
    let b = c.args.book.now.ledger.book in
    let n = c.args.rows in
    let old = map arc_value c.args.steps.now.items in
    let text = c.args.text.now.items in
    subst (λ (ns : List (BareNode ClosedLeaf)). PutsNodes n ns old text old text)
    (sym (nothing-here b c.args.node c.in_default.ensures c.in_default-split_of.ensures))
    (puts-none n old text)
