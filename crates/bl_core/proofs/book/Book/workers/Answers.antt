use Rattle.bl_core.proofs.BookLemmas.{ledger_kept}
use Rattle.bl_core.proofs.book.Book.workers.Goals as goal

pub returns-clause-kept : goal.returns-clause-kept
returns-clause-kept c = rw (← c.self.view_is) (ledger_kept c.self.inside c.self.invariant)
