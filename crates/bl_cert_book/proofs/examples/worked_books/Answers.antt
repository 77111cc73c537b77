use Rattle.std.proofs.Common.{refl}
use Rattle.bl_cert_book.proofs.examples.worked_books.Goals as goal

pub returns : goal.returns
returns c = record { infeasible = refl; optimal = refl }
