use Rattle.bl_cert_book.proofs.BookLemmas.{finished_book_is_accepted}
use Rattle.bl_cert_book.proofs.laws.finished_book_is_accepted.Goals as goal

pub returns : goal.returns
returns c = finished_book_is_accepted
