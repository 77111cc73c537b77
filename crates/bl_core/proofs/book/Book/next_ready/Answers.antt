use Rattle.std.proofs.Common.{arith}
use Rattle.bl_core.proofs.BookLemmas.{few_nodes, node_count, next_told, ready_row_of}
use Rattle.bl_core.proofs.OptionLemmas.{match_follows}
use Rattle.bl_core.proofs.book.Book.next_ready.Goals as goal

pub first_ready-requires : goal.first_ready-requires
first_ready-requires c =
    let few = few_nodes c.self.inside c.self.invariant in
    let count = node_count c.self.inside c.self.invariant in
    rw c.deref.ensures.value (omega (arith, few, count))

pub returns : goal.returns
returns c =
    let b = c.self.inside in
    let told = rw c.deref.ensures.value at c.first_ready.ensures in
    rw (← c.self.view_is)
    (match_follows c.first_ready.result _ _ _ _
    (λ none k least ready. none k least (ready_row_of b c.self.invariant k ready))
    (λ k. next_told b c.self.invariant c.args.from k) told)
