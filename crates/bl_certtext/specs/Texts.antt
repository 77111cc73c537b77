-- Trusted. The text of a certificate, and the line at which another text first fails to be one.
use Rattle.std.specs.Prelude.{◌≡◌, ℕ, ◌+◌, ◌<◌, List, [], ◌∷◌, ◌++◌, length, Result, Ok, Err}
use Rattle.std.specs.List.{AllByRecursion, flat_map}
use Rattle.bl_text.specs.Lines.{ended}
use Rattle.bl_terms.specs.Programs.{Program}
use Rattle.bl_certline.specs.declared.line.CertLine.{CertLine}
use Rattle.bl_certline.specs.Fields.{Bytes}
use Rattle.bl_certline.specs.Lines.{IsWellFormed, PairsRise, spelling}
use Rattle.bl_certtext.specs.declared.cert.RawCert.{RawCert}
use Rattle.bl_certtext.specs.declared.cert.CertError.{CertError}
use Rattle.bl_certtext.specs.declared.cert.CertError.TheVariants.{Fault, Memory}
use Rattle.bl_certtext.specs.declared.part.Part.{Part}
use Rattle.bl_certtext.specs.declared.part.Part.TheVariants as parts
use Rattle.bl_certtext.specs.Grammar.{Begins, Follows}

-- the line has one spelling, and it is this line's alone
abbrev pub IsCanonicalLine : CertLine → Type 0
IsCanonicalLine line = IsWellFormed line × PairsRise line

-- the line with its line feed
abbrev pub line_text : CertLine → Bytes
line_text line = ended (spelling line)

-- the text of lines, one after another
abbrev pub text_of : List CertLine → Bytes
text_of ls = flat_map line_text ls

-- the lines stand one after another from where the first parts are expected to where the others are
abbrev pub Leads : Program → List Part → List CertLine → List Part → Type 0
Leads p expected [] left = left ≡ expected
Leads p [] (line ∷ ls) left = ⊥
Leads p (part ∷ expected) (line ∷ ls) left =
    (next : List Part) × Follows p part line next × Leads p (next ++ expected) ls left

-- what is expected of a whole text
abbrev pub start : List Part
start = parts.Version ∷ []

-- The text is these canonical lines, which follow the grammar to its end.
pub record IsCertificate (p : Program) (bytes : Bytes) (ls : List CertLine) : Type 0 where
  pub canonical : AllByRecursion IsCanonicalLine ls
  pub grammar : Leads p start ls []
  pub spelled : bytes ≡ text_of ls

-- The bytes don't go on as the parts ask: where nothing more is expected there is a byte, and else no canonical line
-- with which the next part begins comes next.
abbrev pub IsRefused : Program → List Part → Bytes → Type 0
IsRefused p [] bytes = 0 < length bytes
IsRefused p (part ∷ expected) bytes =
    (line : CertLine) (rest : Bytes) → IsCanonicalLine line → Begins p part line → bytes ≡ line_text line ++ rest → ⊥

-- The lines before this one, counted from 1, are canonical and follow the grammar, and it doesn't.
pub record FailsFirst (p : Program) (bytes : Bytes) (number : ℕ) : Type 0 where
  pub before : List CertLine
  pub rest : Bytes
  pub expected : List Part
  pub canonical : AllByRecursion IsCanonicalLine before
  pub grammar : Leads p start before expected
  pub spelled : bytes ≡ text_of before ++ rest
  pub refused : IsRefused p expected rest
  pub counted : number ≡ length before + 1

-- What is read: the lines of the certificate that the text is, or the line at which it first fails to be one. Where
-- memory ran out nothing is known.
abbrev pub IsRead : Program → Bytes → Result RawCert CertError → Type 0
IsRead p bytes (Ok cert) = IsCertificate p bytes cert.lines
IsRead p bytes (Err (Fault line)) = FailsFirst p bytes line
IsRead p bytes (Err Memory) = Unit {0}
