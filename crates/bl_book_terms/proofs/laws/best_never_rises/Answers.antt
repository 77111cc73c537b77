use Rattle.bl_book_terms.proofs.NodeLemmas.{best_never_rises}
use Rattle.bl_book_terms.proofs.laws.best_never_rises.Goals as goal

pub returns : goal.returns
returns c = best_never_rises
