use Rattle.bl_core.proofs.OutcomeLemmas.{full_book_may_end}
use Rattle.bl_core.proofs.laws.full_book_may_end.Goals as goal

pub returns : goal.returns
returns c = full_book_may_end
