-- Internal. The step over one line.
use Rattle.std.specs.Prelude.{◌≡◌, List, ◌++◌, reverse}
use Rattle.std.specs.List.{AllByRecursion}
use Rattle.bl_terms.specs.Programs.{Program}
use Rattle.bl_certline.specs.declared.line.CertLine.{CertLine}
use Rattle.bl_certtext.specs.declared.part.Part.{Part}
use Rattle.bl_certline.specs.Fields.{Bytes}
use Rattle.bl_certtext.specs.Grammar.{Begins, Follows}
use Rattle.bl_certtext.specs.Texts.{IsCanonicalLine, Leads, line_text, start, text_of}

-- the canonical line comes first in the bytes, and then these
pub record IsFirstLine (bytes : Bytes) (line : CertLine) (rest : Bytes) : Type 0 where
  pub canonical : IsCanonicalLine line
  pub spelled : bytes ≡ line_text line ++ rest

-- no canonical line comes first in the bytes
abbrev pub IsNoLine : Bytes → Type 0
IsNoLine bytes = (line : CertLine) (rest : Bytes) → IsFirstLine bytes line rest → ⊥

-- no canonical line with which the part begins comes first in the bytes
abbrev pub IsRefusedLine : Program → Part → Bytes → Type 0
IsRefusedLine p part bytes =
    (line : CertLine) (rest : Bytes) → IsCanonicalLine line → Begins p part line → bytes ≡ line_text line ++ rest → ⊥

-- the line comes first in the bytes, and what follows it is expected before what was expected behind the part
pub record Advances (p : Program) (part : Part) (bytes : Bytes) (line : CertLine) (rest : Bytes) (old new : List Part)
    : Type 0 where
  pub first : IsFirstLine bytes line rest
  pub next : List Part
  pub follows : Follows p part line next
  pub expected : reverse new ≡ next ++ reverse old

-- The lines read so far, the stack of the parts that are expected, the next on top, and what is left of the text.
pub record IsReached (p : Program) (bytes : Bytes) (ls : List CertLine) (stack : List Part) (rest : Bytes)
    : Type 0 where
  pub canonical : AllByRecursion IsCanonicalLine ls
  pub grammar : Leads p start ls (reverse stack)
  pub spelled : bytes ≡ text_of ls ++ rest
