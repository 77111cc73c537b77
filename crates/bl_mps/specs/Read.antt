-- Trusted. What is read of an MPS text.
use Rattle.std.specs.Prelude.{◌≡◌, ◌⊎◌, ℕ, ℤ, List, Some, Result, Ok, Err}
use Rattle.bl_raw.specs.declared.raw.RawMps.{RawMps}
use Rattle.bl_mps_terms.specs.declared.fault.MpsFault.{MpsFault}
use Rattle.bl_mps_terms.specs.Faults.{first_fault}
use Rattle.bl_mps_terms.specs.Meaning.{Reads}
use Rattle.bl_mps_read.specs.declared.error.MpsError.{MpsError}
use Rattle.bl_mps_read.specs.declared.error.MpsError.TheVariants.{Fault, Memory}

-- What the text says, where it has no fault, and else its first fault. Where memory ran out nothing is known.
abbrev pub IsRead : ℤ → List ℕ → Result RawMps MpsError → Type 0
IsRead default text (Ok mps) = Reads default text mps
IsRead default text (Err (Fault fault)) = first_fault default text ≡ Some fault
IsRead default text (Err Memory) = Unit {0}

-- A text says a model or has a first fault, and not both, and it says one model at most.
pub record OneReading (default : ℤ) (text : List ℕ) : Type 0 where
  pub either : ((mps : RawMps) × Reads default text mps)
      ⊎ ((fault : MpsFault) × (first_fault default text ≡ Some fault))
  pub never_both : (mps : RawMps) (fault : MpsFault) → Reads default text mps → first_fault default text ≡ Some fault
      → ⊥
  pub one : (a b : RawMps) → Reads default text a → Reads default text b → a ≡ b

abbrev pub HasOneReading : Type 0
HasOneReading = (default : ℤ) (text : List ℕ) → OneReading default text
