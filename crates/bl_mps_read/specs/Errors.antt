-- What is read of a text, or its fault.
use Rattle.std.specs.Prelude.{◌≡◌, ℕ, Result, Ok, Err}
use Rattle.bl_mps_terms.specs.declared.fault.MpsFault.{MpsFault}
use Rattle.bl_mps_terms.specs.Faults.{at_line}
use Rattle.bl_mps_read.specs.declared.error.MpsError.{MpsError}
use Rattle.bl_mps_read.specs.declared.error.MpsError.TheVariants.{Fault, Memory}
use Rattle.bl_mps_read.specs.declared.stop.Stop.{Stop}
use Rattle.bl_mps_read.specs.declared.stop.Stop.TheVariants as stops

abbrev pub error_at : ℕ → Stop → MpsError
error_at line (stops.Rule rule) = Fault (at_line line rule)
error_at line stops.Memory = Memory

-- Where memory ran out nothing is known.
abbrev pub HasFault : {Y : Type 0} → MpsError → Result Y MpsFault → Type 0
HasFault Memory read = Unit {0}
HasFault (Fault fault) read = read ≡ Err fault

abbrev pub GivesRead : {X Y : Type 0} → (X → Y) → Result X MpsError → Result Y MpsFault → Type 0
GivesRead view (Ok x) read = read ≡ Ok (view x)
GivesRead view (Err error) read = HasFault error read
