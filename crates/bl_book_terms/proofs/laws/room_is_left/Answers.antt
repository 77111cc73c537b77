use Rattle.bl_book_terms.proofs.RunLemmas.{room_is_left}
use Rattle.bl_book_terms.proofs.laws.room_is_left.Goals as goal

pub returns : goal.returns
returns c = room_is_left
