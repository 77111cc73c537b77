use Rattle.std.proofs.Common.{◌≡◌, refl, sym, ◌∙◌, ap, subst, arith}
use Rattle.bl_terms.specs.Programs.{root}
use Rattle.bl_core.proofs.BookLemmas.{book_opened}
use Rattle.bl_core.proofs.book.Book.start.Goals as goal

pub invariant_of-result : goal.invariant_of-result
invariant_of-result c =
    book_opened _ (rw c.deref.ensures at c.sense-is_model.ensures.model) c.requires.workers_least
    c.requires.workers_most c.requires.limit_least c.requires.limit_most
    (c.in_ok-root-2.ensures.ok ∙ c.in_ok-root.ensures ∙ ap root c.deref-2.ensures) c.in_ok-no_cuts.ensures
    c.new-2.ensures.items c.in_ok-nodes.ensures refl refl refl (omega (arith, c.in_ok-nodes.nodes.ok))
