-- Trusted. What a checker answers: what an accepted text states, or where another text is refused and by which rule.
-- Where memory ran out nothing is known.
use Rattle.std.specs.Prelude.{Result, Ok, Err}
use Rattle.bl_terms.specs.Programs.{Program}
use Rattle.bl_cert_terms.specs.declared.stated.Statement.{Statement}
use Rattle.bl_certline.specs.Fields.{Bytes}
use Rattle.bl_check_terms.specs.Accepting.{Accepts, FirstRefusal}
use Rattle.bl_check_walk.specs.declared.fail.CheckFail.{CheckFail}
use Rattle.bl_check_walk.specs.declared.fail.CheckFail.TheVariants.{Refused, Memory}

abbrev pub IsChecked : Program → Bytes → Result Statement CheckFail → Type 0
IsChecked p bytes (Ok s) = Accepts p bytes s
IsChecked p bytes (Err (Refused line rule)) = FirstRefusal p bytes line rule
IsChecked p bytes (Err Memory) = Unit {0}
