-- Trusted. What a judge of lines is asked, and his verdict.
use Rattle.std.specs.Prelude.{List, ◌∷◌, Option, MatchOption}
use Rattle.bl_terms.specs.Programs.{Program}
use Rattle.bl_cert_terms.specs.Certificates.{Certificate}
use Rattle.bl_certline.specs.declared.line.CertLine.{CertLine}
use Rattle.bl_certtext.specs.declared.part.Part.{Part}
use Rattle.bl_certtext.specs.Texts.{start}
use Rattle.bl_check_terms.specs.declared.rule.CertRule.{CertRule}
use Rattle.bl_check_terms.specs.Accepting.{IsFormed, IsPlaced, Reads}
use Rattle.bl_check_terms.specs.Reading.{nothing, with_line}
use Rattle.bl_check_terms.specs.Rules.{KeepsAll, IsFirstBroken}
use Rattle.bl_check_walk.specs.declared.site.Site.{Site}
use Rattle.bl_check_walk.specs.Sites.{IsSite, IsSound}

-- right lines said the certificate, and these parts are expected behind them
abbrev pub WasRead : Program → List Part → Certificate → Type 0
WasRead p expected c = (lines : List CertLine) × Reads p start nothing lines expected c

-- the line has its form and place at the part, which is expected where the certificate was said
pub record StandsAt (Says : Certificate → Type 0) (p : Program) (site : Site) (line : CertLine) (c : Certificate)
    (part : Part) (expected : List Part) : Type 0 where
  pub read : WasRead p (part ∷ expected) c
  pub said : Says c
  pub site_is : IsSite part site
  pub sound : IsSound p part
  pub formed : IsFormed p part line
  pub placed : IsPlaced p part line

-- there is such a part
abbrev pub Stands : (Certificate → Type 0) → Program → Site → CertLine → Type 0
Stands Says p site line =
    (c : Certificate) × ((part : Part) × ((expected : List Part) × StandsAt Says p site line c part expected))

-- where no rule is told the line keeps all and was taken over; else the rule is the first that it breaks
abbrev pub IsVerdict : (Certificate → Type 0) → (Certificate → Type 0) → Program → Site → CertLine → Option CertRule
    → Type 0
IsVerdict Says Then p site line broken =
    (c : Certificate) (part : Part) (expected : List Part) → StandsAt Says p site line c part expected
    → MatchOption broken (KeepsAll p c part line × Then (with_line p part line c)) (IsFirstBroken p c part line)
