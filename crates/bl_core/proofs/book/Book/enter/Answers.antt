use Rattle.std.proofs.Common.{◌≡◌, sym, ◌∙◌, ap, subst, arith, ℕ, length}
use Rattle.std.specs.Prelude.{ℤ, Option}
use Rattle.bl_leaf_terms.specs.Incumbents.{Incumbent, cutoff_of}
use Rattle.bl_book_terms.specs.Books.{IsAllowed, best_value}
use Rattle.bl_core.specs.Accounts.{KeptBook}
use Rattle.bl_core.specs.Events.{event_of}
use Rattle.bl_core.specs.Tables.{IsOfRow, book_at, rows_after}
use Rattle.bl_core.proofs.StepLemmas.{best_told, few_live, live_some, allowed_row}
use Rattle.bl_core.proofs.BookLemmas.{few_nodes, node_count, book_stepped, account_stepped}
use Rattle.bl_core.proofs.book.Book.enter.Goals as goal

pub count_live-self-inside-requires-clause-few : goal.count_live-self-inside-requires-clause-few
count_live-self-inside-requires-clause-few c =
    let live = c.self.invariant.live in
    let most = few_live (book_at c.self.inside).nodes in
    let few = few_nodes c.self.inside c.self.invariant in
    omega (arith, live, most, few)

pub count_live-self-inside-requires-clause-some : goal.count_live-self-inside-requires-clause-some
count_live-self-inside-requires-clause-some c = λ closes.
    let live = c.self.invariant.live in
    let may = rw (← c.self.view_is) at c.requires.allowed in
    let some = live_some (book_at c.self.inside) c.args.event may closes in
    omega (arith, live, some)

pub write_rows-requires-clause-row : goal.write_rows-requires-clause-row
write_rows-requires-clause-row c =
    let may = rw (← c.self.view_is) at c.requires.allowed in
    subst (λ (n : ℕ). IsOfRow n c.args.event) (node_count c.self.inside c.self.invariant)
    (allowed_row (book_at c.self.inside) c.args.event may)

pub write_rows-requires-clause-few : goal.write_rows-requires-clause-few
write_rows-requires-clause-few c =
    let few = few_nodes c.self.inside c.self.invariant in
    let count = node_count c.self.inside c.self.invariant in
    omega (arith, few, count)

pub invariant_of-self : goal.invariant_of-self
invariant_of-self c =
    let b = c.self.inside in
    let may = rw (← c.self.view_is) at c.requires.allowed in
    let some = rw (← c.self.view_is) at c.requires.spare in
    let told = rw c.deref.ensures.value at c.best_at.ensures in
    let value : c.value_of-value.result ≡ best_value (book_at b) =
    c.value_of-value.ensures
    ∙ ap cutoff_of (told ∙ best_told b.journal.items b.best (book_at b).best c.self.invariant.best) in
    let place : c.len-place.result ≡ length b.journal.items = omega (arith, c.len-place.ensures) in
    let rows = c.write_rows.ensures.items
    ∙ ap (λ (v : Option ℤ). rows_after v c.len-place.result b.nodes.items c.args.event) value
    ∙ ap (λ (n : ℕ). rows_after (best_value (book_at b)) n b.nodes.items c.args.event) place in
    book_stepped b c.args.event c.write_rows.new.rows c.add_event.new.journal c.next_best-self-inside.result
    c.count_live-self-inside.result c.add_event.ensures.items c.self.invariant some may rows
    (rw c.deref-2.ensures.value at c.next_best-self-inside.ensures) c.count_live-self-inside.ensures
    c.add_event.ensures.capacity c.write_rows.ensures.capacity

pub returns : goal.returns
returns c =
    rw (← c.self.view_is)
    (account_stepped c.self.inside c.args.event c.write_rows.new.rows c.add_event.new.journal
    c.next_best-self-inside.result c.count_live-self-inside.result c.add_event.ensures.items)
