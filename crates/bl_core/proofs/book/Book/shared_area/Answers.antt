use Rattle.std.proofs.Common.{sym, ◌∙◌, ap, Some}
use Rattle.bl_core.proofs.BookLemmas.{row_tells, past_rows}
use Rattle.bl_core.proofs.OptionLemmas.{shared_some}
use Rattle.bl_core.proofs.book.Book.shared_area.Goals as goal

pub returns-in-Some : goal.returns-in-Some
returns-in-Some c =
    let b = c.self.inside in
    let got = sym (rw c.deref.ensures.value at c.row_of.ensures) ∙ c.in-Some.is in
    let at = row_tells b c.self.invariant c.args.node c.in-Some.row got in
    let told = rw c.deref-in-Some.ensures.value at c.area_of.ensures in
    rw (← c.self.view_is) (shared_some c.area_of.result _ _ (told ∙ at.1.area) _ at.0)

pub returns-in-None : goal.returns-in-None
returns-in-None c =
    let b = c.self.inside in
    let got = sym (rw c.deref.ensures.value at c.row_of.ensures) ∙ c.in-None.is in
    rw (← c.self.view_is) (past_rows b c.self.invariant c.args.node got)
