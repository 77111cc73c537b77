-- What a checker accepts is true.
use Rattle.std.specs.Prelude.{Result, Ok, Err, IfOk}
use Rattle.bl_terms.specs.Programs.{Program}
use Rattle.bl_model.specs.View.{IsModel}
use Rattle.bl_cert_terms.specs.declared.stated.Statement.{Statement}
use Rattle.bl_cert_terms.specs.Certificates.{StatementHolds}
use Rattle.bl_certline.specs.Fields.{Bytes}
use Rattle.bl_check_terms.proofs.Accepted.{acceptance_law}
use Rattle.bl_check_walk.specs.declared.fail.CheckFail.{CheckFail}
use Rattle.bl_check.specs.Checks.{IsChecked}

-- what is stated by a text that was checked
pub checked_holds : (p : Program) (bytes : Bytes) (r : Result Statement CheckFail) → IsModel p → IsChecked p bytes r
    → IfOk r (StatementHolds p)
checked_holds p bytes (Ok s) m h = acceptance_law p bytes s m h
checked_holds p bytes (Err fail) m h = tt
