use Rattle.bl_cert_book.proofs.BookLemmas.{finished_book_has_certificate}
use Rattle.bl_cert_book.proofs.laws.finished_book_has_certificate.Goals as goal

pub returns : goal.returns
returns c = finished_book_has_certificate
