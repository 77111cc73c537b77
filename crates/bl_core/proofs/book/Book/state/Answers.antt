use Rattle.std.proofs.Common.{sym, ◌∙◌, ap, Some}
use Rattle.bl_core.proofs.ReadLemmas.{state_told, state_in, state_past}
use Rattle.bl_core.proofs.BookLemmas.{row_tells, past_rows}
use Rattle.bl_core.specs.Tables.{book_at}
use Rattle.bl_core.proofs.book.Book.state.Goals as goal

pub returns-in-Some : goal.returns-in-Some
returns-in-Some c =
    let b = c.self.inside in
    let got = sym (rw c.deref.ensures.value at c.row_of.ensures) ∙ c.in-Some.is in
    let at = row_tells b c.self.invariant c.args.node c.in-Some.row got in
    let told = state_told b.journal.items c.in-Some.row.status _ at.1.status in
    rw (← c.self.view_is) (ap (λ s. Some s) (c.state_of.ensures ∙ told) ∙ sym (state_in (book_at b) c.args.node at.0))

pub returns-in-None : goal.returns-in-None
returns-in-None c =
    let b = c.self.inside in
    let got = sym (rw c.deref.ensures.value at c.row_of.ensures) ∙ c.in-None.is in
    rw (← c.self.view_is)
    (sym (state_past (book_at b) c.args.node (past_rows b c.self.invariant c.args.node got)))
