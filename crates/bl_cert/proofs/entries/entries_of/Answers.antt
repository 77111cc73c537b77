use Rattle.std.proofs.Common.{List, [], ◌++◌, take, sym, ap, ◌∙◌, append_assoc}
use Rattle.std.specs.Prelude.{slice_index}
use Rattle.bl_fproof.specs.Entries.{Admitted}
use Rattle.bl_cert_terms.specs.Certificates.{ProvedEntry}
use Rattle.bl_cert_book.specs.Entries.{entries_of_best, entries_of_tree, with_entries}
use Rattle.bl_cert.specs.Order.{node_here, nodes_here}
use Rattle.bl_cert.proofs.Entering.{tree-entries-append, with-entries-append}
use Rattle.bl_cert.proofs.Preorder.{nodes-more}
use Rattle.bl_cert.proofs.entries.entries_of.Goals as goal

pub loop-node-preserved : goal.loop-node-preserved
loop-node-preserved c =
    let b = c.args.book.now.ledger.book in
    let order = c.args.order.now in
    let i = c.loop-node.node-index in
    let k = slice_index order i in
    let best = entries_of_best b.best in
    let before = nodes_here b (take i order) in
    let here = entries_of_tree (node_here b k) in
    let nodes = nodes-more b order i c.loop-node-test.true in
    record {
      by_link = c.in_ok-enter_node.ensures.by_link;
      so_far =
          c.in_ok-enter_node.ensures.entered
          ∙ ap (λ (es : List ProvedEntry). with_entries es here) c.loop-node.invariant.so_far
          ∙ (sym (with-entries-append [] (best ++ entries_of_tree before) here)
          ∙ ap (with_entries [])
          (append_assoc best (entries_of_tree before) here
          ∙ ap (λ (es : List Admitted). best ++ es)
          (sym (tree-entries-append before (node_here b k)) ∙ ap entries_of_tree nodes)));
    }
