use Rattle.std.proofs.Common.{◌≡◌, ◌++◌, [], take}
use Rattle.bl_cert_book.specs.Entries.{entries_of_best, entries_of_tree, with_entries}
use Rattle.bl_cert.specs.Entered.{AreByLink, entered}
use Rattle.bl_cert.specs.Order.{nodes_here}
use Rattle.bl_cert.proofs.entries.entries_of.Given as goal

abbrev pub invariant-loop-node : goal.invariant-loop-node
invariant-loop-node l = record {
  by_link : AreByLink l.entries.entries;
  so_far : entered l.entries
      ≡ with_entries [] (entries_of_best l.book.ledger.book.best
      ++ entries_of_tree (nodes_here l.book.ledger.book (take l.node-index l.order)));
}
