-- Trusted. A canonical MPS text reads back.
use Rattle.std.specs.Prelude.{◌≡◌, ◌⊎◌, ℕ, ◌<◌, ◌≤◌, ℤ, unsigned_abs, List, ◌++◌, length, Some, Result, Ok, Err}
use Rattle.bl_limits.specs.declared.TheConstants.{MAX_NUMBER, MAX_TEXT_BYTES}
use Rattle.bl_raw.specs.declared.raw.RawMps.{RawMps}
use Rattle.bl_mps_terms.specs.declared.fault.MpsRule.TheVariants as rules
use Rattle.bl_mps_terms.specs.Faults.{at_line, first_fault}
use Rattle.bl_mps_terms.specs.Meaning.{Reads}
use Rattle.bl_mps_read.specs.declared.error.MpsError.{MpsError}
use Rattle.bl_mps_read.specs.declared.error.MpsError.TheVariants.{Memory}
use Rattle.bl_mps_write.specs.Canonical.{mps_text}
use Rattle.bl_mps.specs.Read.{IsRead}

-- What a text says with a default upper bound that is small enough, its canonical text says too. It names a column once
-- for each coefficient and bound, so it can be longer than that text, and longer than a text may be.
pub record ReadsBack : Type 0 where
  -- Within that limit it says the same, with every default upper bound,
  pub said : (default : ℤ) (text : List ℕ) (mps : RawMps) → unsigned_abs default ≤ MAX_NUMBER → Reads default text mps
      → length (mps_text mps) ≤ MAX_TEXT_BYTES → (other : ℤ) → Reads other (mps_text mps) mps
  -- also where something stands behind it;
  pub followed : (default : ℤ) (text : List ℕ) (mps : RawMps) → unsigned_abs default ≤ MAX_NUMBER
      → Reads default text mps → (behind : List ℕ) → length (mps_text mps ++ behind) ≤ MAX_TEXT_BYTES → (other : ℤ)
      → Reads other (mps_text mps ++ behind) mps
  -- so it is read as the same model, unless memory runs out.
  pub read : (default : ℤ) (text : List ℕ) (mps : RawMps) → unsigned_abs default ≤ MAX_NUMBER
      → IsRead default text (Ok mps) → length (mps_text mps) ≤ MAX_TEXT_BYTES → (other : ℤ)
      → (result : Result RawMps MpsError) → IsRead other (mps_text mps) result
      → (result ≡ Ok mps) ⊎ (result ≡ Err Memory)
  -- Above it, it is refused for its length.
  pub long : (mps : RawMps) → MAX_TEXT_BYTES < length (mps_text mps) → (other : ℤ)
      → first_fault other (mps_text mps) ≡ Some (at_line 0 rules.TooLong)
