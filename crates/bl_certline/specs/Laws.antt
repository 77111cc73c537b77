-- Trusted. What fixes the meaning of a certificate's lines.
use Rattle.std.specs.Prelude.{◌≡◌}
use Rattle.bl_text.specs.Lines.{IsLine}
use Rattle.bl_certline.specs.declared.line.CertLine.{CertLine}
use Rattle.bl_certline.specs.Lines.{IsWellFormed, spelling}

-- Each spelling is of one line.
abbrev pub HaveOneMeaning : Type 0
HaveOneMeaning = (a b : CertLine) → IsWellFormed a → IsWellFormed b → spelling a ≡ spelling b → a ≡ b

-- No line feed stands in a spelling, so a text of lines, each with its line feed, falls into these lines.
abbrev pub HaveNoLineFeed : Type 0
HaveNoLineFeed = (line : CertLine) → IsWellFormed line → IsLine (spelling line)
