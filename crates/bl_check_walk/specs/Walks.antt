-- Internal. The lines of a text that were read, one after another.
use Rattle.std.specs.Prelude.{◌≡◌, ℕ, ◌+◌, ◌≤◌, List, ◌∷◌, ◌++◌, length, Option, MatchOption, reverse}
use Rattle.std.specs.List.{AllByRecursion}
use Rattle.bl_terms.specs.Programs.{Program}
use Rattle.bl_cert_terms.specs.Certificates.{Certificate}
use Rattle.bl_certline.specs.declared.line.CertLine.{CertLine}
use Rattle.bl_certline.specs.Fields.{Bytes}
use Rattle.bl_certline.specs.Lines.{IsWellFormed}
use Rattle.bl_certtext.specs.declared.part.Part.{Part}
use Rattle.bl_certtext.specs.declared.part.Following.{Following}
use Rattle.bl_certtext.specs.Grammar.{parts_behind, parts_in}
use Rattle.bl_certtext.specs.Texts.{line_text, start, text_of}
use Rattle.bl_check_terms.specs.declared.rule.CertRule.{CertRule}
use Rattle.bl_check_terms.specs.Accepting.{IsPlaced, IsRefusedAt, IsRightLine, Reads}
use Rattle.bl_check_terms.specs.Reading.{nothing, with_line}
use Rattle.bl_check_walk.specs.Judges.{WasRead}
use Rattle.bl_check_walk.specs.Sites.{IsSound}

-- the well-formed line comes first in the bytes, and then these
pub record IsFirstLine (bytes : Bytes) (line : CertLine) (rest : Bytes) : Type 0 where
  pub well_formed : IsWellFormed line
  pub spelled : bytes ≡ line_text line ++ rest

-- no well-formed line comes first in the bytes
abbrev pub IsNoLine : Bytes → Type 0
IsNoLine bytes = (line : CertLine) (rest : Bytes) → IsFirstLine bytes line rest → ⊥

-- what is expected behind the line, and nothing exactly where it isn't in its place
abbrev pub IsPlacedStep : Program → Part → CertLine → Option Following → Type 0
IsPlacedStep p part line step =
    MatchOption step (¬ IsPlaced p part line) (λ f. IsPlaced p part line × (parts_in f ≡ parts_behind p part line))

-- the part is expected where the certificate was said
pub record IsAt (Says : Certificate → Type 0) (p : Program) (part : Part) (expected : List Part) (c : Certificate)
    : Type 0 where
  pub read : WasRead p (part ∷ expected) c
  pub said : Says c

-- the line comes first in the bytes and is right, it was taken over, and what follows it is expected before what was
-- expected behind the part
pub record IsAdvanced (Then : Certificate → Type 0) (p : Program) (c : Certificate) (part : Part) (bytes rest : Bytes)
    (old new : List Part) : Type 0 where
  pub line : CertLine
  pub right : IsRightLine p c part line
  pub spelled : bytes ≡ line_text line ++ rest
  pub expected : reverse new ≡ parts_behind p part line ++ reverse old
  pub said : Then (with_line p part line c)

abbrev pub IsAdvance : (Certificate → Type 0) → (Certificate → Type 0) → Program → Part → Bytes → Bytes → List Part
    → List Part → Type 0
IsAdvance Says Then p part bytes rest old new =
    (c : Certificate) → IsAt Says p part (reverse old) c → IsAdvanced Then p c part bytes rest old new

-- the next line is refused by the rule
abbrev pub IsRefusal : (Certificate → Type 0) → Program → Part → Bytes → List Part → CertRule → Type 0
IsRefusal Says p part bytes old rule =
    (c : Certificate) → IsAt Says p part (reverse old) c → IsRefusedAt p c part bytes rule

-- The lines read so far, counted, what they say, the stack of the parts that are expected, the next on top, and what is
-- left of the text.
pub record IsReached (Says : Certificate → Type 0) (p : Program) (bytes : Bytes) (number : ℕ) (stack : List Part)
    (rest : Bytes) : Type 0 where
  pub lines : List CertLine
  pub certificate : Certificate
  pub reads : Reads p start nothing lines (reverse stack) certificate
  pub spelled : bytes ≡ text_of lines ++ rest
  pub counted : number ≡ length lines
  pub room : number + length rest ≤ length bytes
  pub said : Says certificate
  pub sound : AllByRecursion (IsSound p) (reverse stack)
