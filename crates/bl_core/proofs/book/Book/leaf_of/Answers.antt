use Rattle.std.proofs.Common.{sym, ◌∙◌}
use Rattle.bl_core.proofs.BookLemmas.{unclosed_told, closed_told, unclosed_past}
use Rattle.bl_core.proofs.OptionLemmas.{match_follows}
use Rattle.bl_core.proofs.book.Book.leaf_of.Goals as goal

pub returns-in-Some : goal.returns-in-Some
returns-in-Some c =
    let b = c.self.inside in
    let got = sym (rw c.deref.ensures.value at c.row_of.ensures) ∙ c.in-Some.is in
    let told = rw c.deref-in-Some.ensures.value at c.closed_at.ensures in
    rw (← c.self.view_is)
    (match_follows c.closed_at.result _ _ _ _
    (unclosed_told b c.self.invariant c.args.node c.in-Some.row got)
    (λ l. closed_told b c.self.invariant c.args.node c.in-Some.row got l.now) told)

pub returns-in-None : goal.returns-in-None
returns-in-None c =
    let got = sym (rw c.deref.ensures.value at c.row_of.ensures) ∙ c.in-None.is in
    rw (← c.self.view_is) (unclosed_past c.self.inside c.self.invariant c.args.node got)
