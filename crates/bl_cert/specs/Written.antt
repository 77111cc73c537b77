-- Trusted. The text that is written of a finished book.
use Rattle.std.specs.Prelude.{◌≡◌, Some, Result, Ok, Err}
use Rattle.bl_book_terms.specs.Books.{Book}
use Rattle.bl_cert_terms.specs.Certificates.{Certificate}
use Rattle.bl_cert_book.specs.BookCertificates.{certificate_of, stated_by}
use Rattle.bl_certline.specs.Fields.{Bytes}
use Rattle.bl_outer.specs.Count.{Grew}
use Rattle.bl_outer.specs.Files.{Told, Appends, AppendsPrefix}
use Rattle.bl_outer.specs.Shelf.{ShelfState, chosen_name}
use Rattle.bl_cert.specs.declared.text.WriteFail.{WriteFail}
use Rattle.bl_cert.specs.declared.text.WriteFail.TheVariants.{Failed, Memory}
use Rattle.bl_check_terms.specs.Accepting.{Accepts}
use Rattle.bl_check_terms.specs.Writing.{certificate_text}

-- the book has a certificate, this is its text, and the text is accepted: it states what the book says
pub record IsCertificateText (b : Book) (text : Bytes) : Type 0 where
  pub certificate : Certificate
  pub of : certificate_of b ≡ Some certificate
  pub spelled : text ≡ certificate_text b.program certificate
  pub accepted : Accepts b.program text (stated_by b.program b.best)

-- how the text came to the chosen file: it stands at its end; or some first bytes of it do, and the fault was counted;
-- or nothing changed for want of memory
abbrev pub IsWritten : {T : Type 0} → Book → Result T WriteFail → ShelfState → ShelfState → Type 0
IsWritten b (Ok _) old new =
    (text : Bytes) × IsCertificateText b text × Told (Appends (chosen_name old.mode) text) old.contents new.contents
    × (new.write_faults ≡ old.write_faults)
IsWritten b (Err Failed) old new =
    (text : Bytes) × IsCertificateText b text
    × Told (AppendsPrefix (chosen_name old.mode) text) old.contents new.contents
    × Grew old.write_faults new.write_faults
IsWritten b (Err Memory) old new = new ≡ old
