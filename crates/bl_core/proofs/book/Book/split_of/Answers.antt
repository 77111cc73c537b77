use Rattle.std.proofs.Common.{sym, ◌∙◌}
use Rattle.bl_core.proofs.BookLemmas.{next_numbers, unsplit_told, split_told, unsplit_past}
use Rattle.bl_core.proofs.OptionLemmas.{match_follows}
use Rattle.bl_core.proofs.book.Book.split_of.Goals as goal

pub split_at-requires : goal.split_at-requires
split_at-requires c =
    let got = sym (rw c.deref.ensures.value at c.row_of.ensures) ∙ c.in-Some.is in
    next_numbers c.self.inside c.self.invariant c.args.node c.in-Some.row got

pub returns-in-Some : goal.returns-in-Some
returns-in-Some c =
    let b = c.self.inside in
    let got = sym (rw c.deref.ensures.value at c.row_of.ensures) ∙ c.in-Some.is in
    let told = rw c.deref-in-Some.ensures.value at c.split_at.ensures in
    rw (← c.self.view_is)
    (match_follows c.split_at.result _ _ _ _
    (unsplit_told b c.self.invariant c.args.node c.in-Some.row got)
    (λ s. split_told b c.self.invariant c.args.node c.in-Some.row got s.0.now s.1 s.2) told)

pub returns-in-None : goal.returns-in-None
returns-in-None c =
    let got = sym (rw c.deref.ensures.value at c.row_of.ensures) ∙ c.in-None.is in
    rw (← c.self.view_is) (unsplit_past c.self.inside c.self.invariant c.args.node got)
