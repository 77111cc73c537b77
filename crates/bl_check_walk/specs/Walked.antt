-- Trusted. What the way through a text tells: that it is the text of a certificate, which was said, or where it is
-- refused and by which rule. Where memory ran out nothing is known.
use Rattle.std.specs.Prelude.{Result, Ok, Err}
use Rattle.bl_terms.specs.Programs.{Program}
use Rattle.bl_cert_terms.specs.Certificates.{Certificate}
use Rattle.bl_certline.specs.Fields.{Bytes}
use Rattle.bl_check_terms.specs.Accepting.{IsTextOf, FirstRefusal}
use Rattle.bl_check_walk.specs.declared.fail.CheckFail.{CheckFail}
use Rattle.bl_check_walk.specs.declared.fail.CheckFail.TheVariants.{Refused, Memory}

abbrev pub IsWalked : (Certificate → Type 0) → Program → Bytes → Result (Unit {0}) CheckFail → Type 0
IsWalked Says p bytes (Ok u) = (c : Certificate) × IsTextOf p bytes c × Says c
IsWalked Says p bytes (Err (Refused line rule)) = FirstRefusal p bytes line rule
IsWalked Says p bytes (Err Memory) = Unit {0}
