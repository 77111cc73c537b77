-- Trusted. What fixes the reading of a certificate's text.
use Rattle.std.specs.Prelude.{◌≡◌, ℕ, List}
use Rattle.bl_terms.specs.Programs.{Program}
use Rattle.bl_certline.specs.declared.line.CertLine.{CertLine}
use Rattle.bl_certline.specs.Fields.{Bytes}
use Rattle.bl_certtext.specs.Texts.{FailsFirst, IsCertificate}

-- A text is a certificate of one list of lines, or first fails to be one at one line, and never both.
pub record OneReading (p : Program) (bytes : Bytes) : Type 0 where
  pub one : (a b : List CertLine) → IsCertificate p bytes a → IsCertificate p bytes b → a ≡ b
  pub one_fault : (m n : ℕ) → FailsFirst p bytes m → FailsFirst p bytes n → m ≡ n
  pub never_both : (ls : List CertLine) (n : ℕ) → IsCertificate p bytes ls → FailsFirst p bytes n → ⊥

abbrev pub HaveOneReading : Type 0
HaveOneReading = (p : Program) (bytes : Bytes) → OneReading p bytes
