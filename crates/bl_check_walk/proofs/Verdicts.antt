-- A line that comes next, and what refuses it.
use Rattle.std.proofs.Common.{◌≡◌, List, ◌++◌, Option, None, Some, subst, reverse, Result, Bor}
use Rattle.std.specs.Prelude.{MatchOption, Ok, Err}
use Rattle.std.specs.Result.{MatchResult}
use Rattle.bl_terms.specs.Programs.{Program}
use Rattle.bl_cert_terms.specs.Certificates.{Certificate}
use Rattle.bl_certline.specs.declared.line.CertLine.{CertLine}
use Rattle.bl_certline.specs.Fields.{Bytes}
use Rattle.bl_certtext.specs.declared.part.Part.{Part}
use Rattle.bl_certtext.specs.declared.part.Following.{Following}
use Rattle.bl_certtext.specs.Forms.{HasForm}
use Rattle.bl_certtext.specs.Grammar.{parts_behind, parts_in}
use Rattle.bl_check_terms.specs.declared.rule.CertRule.{CertRule}
use Rattle.bl_check_terms.specs.declared.rule.CertRule.TheVariants as rules
use Rattle.bl_check_terms.specs.Accepting.{HasLine, IsPlaced, IsRefusedAt}
use Rattle.bl_check_terms.specs.Reading.{with_line}
use Rattle.bl_check_terms.specs.Rules.{KeepsAll, IsFirstBroken}
use Rattle.bl_check_walk.specs.declared.site.Site.{Site}
use Rattle.bl_check_walk.specs.Judges.{StandsAt, IsVerdict}
use Rattle.bl_check_walk.specs.Sites.{IsSite, IsSound}
use Rattle.bl_check_walk.specs.Walks.{IsAdvance, IsAt, IsFirstLine, IsRefusal}

-- the line that comes first, of the part's form
pub has-line : (p : Program) (part : Part) (bytes : Bytes) (line : CertLine) (rest : Bytes)
    → IsFirstLine bytes line rest → HasForm p part line → HasLine p part bytes line
has-line p part bytes line rest first form = record {
  formed = record { well_formed = first.well_formed; form = form };
  behind = rest;
  spelled = first.spelled;
}

-- the judge is asked of a line that stands at the part
pub stands-at : (S : Certificate → Type 0) (p : Program) (site : Site) (line : CertLine) (c : Certificate) (part : Part)
    (expected : List Part) (bytes rest : Bytes) → IsAt S p part expected c → IsSite part site → IsSound p part
    → IsFirstLine bytes line rest → HasForm p part line → IsPlaced p part line
    → StandsAt S p site line c part expected
stands-at S p site line c part expected bytes rest at is sound first form placed = record {
  read = at.read;
  said = at.said;
  site_is = is;
  sound = sound;
  formed = record { well_formed = first.well_formed; form = form };
  placed = placed;
}

-- a rule that the judge tells refuses the line
pub refused-by : (p : Program) (c : Certificate) (part : Part) (bytes : Bytes) (line : CertLine) (rule : CertRule)
    → HasLine p part bytes line → IsPlaced p part line → IsFirstBroken p c part line rule
    → IsRefusedAt p c part bytes rule
refused-by p c part bytes line rules.Syntax has placed h = absurd (h.broken tt)
refused-by p c part bytes line rules.Place has placed h = absurd (h.broken tt)
refused-by p c part bytes line rules.Tail has placed h = absurd (h.broken tt)
refused-by p c part bytes line rules.Sense has placed h = (line, has, placed, h)
refused-by p c part bytes line rules.Point has placed h = (line, has, placed, h)
refused-by p c part bytes line rules.Best has placed h = (line, has, placed, h)
refused-by p c part bytes line rules.Follower has placed h = (line, has, placed, h)
refused-by p c part bytes line rules.Size has placed h = (line, has, placed, h)
refused-by p c part bytes line rules.Inverse has placed h = (line, has, placed, h)
refused-by p c part bytes line rules.Tight has placed h = (line, has, placed, h)
refused-by p c part bytes line rules.Response has placed h = (line, has, placed, h)
refused-by p c part bytes line rules.Cited has placed h = (line, has, placed, h)
refused-by p c part bytes line rules.Proof has placed h = (line, has, placed, h)

-- the verdict of a judge who tells a rule
pub told : (S T : Certificate → Type 0) (p : Program) (site : Site) (line : CertLine) (part : Part)
    (old : List Part) (bytes rest : Bytes) (broken : Option CertRule) (rule : CertRule)
    → IsVerdict S T p site line broken → broken ≡ Some rule → IsSite part site → IsSound p part
    → IsFirstLine bytes line rest → HasForm p part line → IsPlaced p part line → IsRefusal S p part bytes old rule
told S T p site line part old bytes rest broken rule verdict e is sound first form placed c at =
    let stands = stands-at S p site line c part (reverse old) bytes rest at is sound first form placed in
    let Told : Option CertRule → Type 0 =
    λ b. MatchOption b (KeepsAll p c part line × T (with_line p part line c)) (IsFirstBroken p c part line) in
    let h : IsFirstBroken p c part line rule = subst Told e (verdict c part (reverse old) stands) in
    refused-by p c part bytes line rule (has-line p part bytes line rest first form) placed h

-- and of one who tells none
pub taken : (S T : Certificate → Type 0) (p : Program) (site : Site) (line : CertLine) (part : Part)
    (old new : List Part) (bytes rest : Bytes) (broken : Option CertRule) (f : Following)
    → IsVerdict S T p site line broken → broken ≡ None → IsSite part site → IsSound p part
    → IsFirstLine bytes line rest → HasForm p part line → IsPlaced p part line
    → parts_in f ≡ parts_behind p part line → reverse new ≡ parts_in f ++ reverse old
    → IsAdvance S T p part bytes rest old new
taken S T p site line part old new bytes rest broken f verdict e is sound first form placed behind pushed c at =
    let stands = stands-at S p site line c part (reverse old) bytes rest at is sound first form placed in
    let Told : Option CertRule → Type 0 =
    λ b. MatchOption b (KeepsAll p c part line × T (with_line p part line c)) (IsFirstBroken p c part line) in
    let h : KeepsAll p c part line × T (with_line p part line c) =
    subst Told e (verdict c part (reverse old) stands) in
    record {
      line = line;
      right = record {
        formed = record { well_formed = first.well_formed; form = form };
        placed = placed;
        rules = h.0;
      };
      spelled = first.spelled;
      expected = subst (λ (qs : List Part). reverse new ≡ qs ++ reverse old) behind pushed;
      said = h.1;
    }

-- what became of the next line
pub advanced : (S T : Certificate → Type 0) (p : Program) (part : Part) (bytes : Bytes) (old new : List Part)
    (next : Result (Bor Bytes) CertRule) (rest : Bor Bytes)
    → MatchResult next (λ rest. IsAdvance S T p part bytes rest.now old new) (IsRefusal S p part bytes old)
    → next ≡ Ok rest → IsAdvance S T p part bytes rest.now old new
advanced S T p part bytes old new next rest h e =
    let Next : Result (Bor Bytes) CertRule → Type 0 =
    λ r. MatchResult r (λ rest. IsAdvance S T p part bytes rest.now old new) (IsRefusal S p part bytes old) in
    subst Next e h

pub refused : (S T : Certificate → Type 0) (p : Program) (part : Part) (bytes : Bytes) (old new : List Part)
    (next : Result (Bor Bytes) CertRule) (rule : CertRule)
    → MatchResult next (λ rest. IsAdvance S T p part bytes rest.now old new) (IsRefusal S p part bytes old)
    → next ≡ Err rule → IsRefusal S p part bytes old rule
refused S T p part bytes old new next rule h e =
    let Next : Result (Bor Bytes) CertRule → Type 0 =
    λ r. MatchResult r (λ rest. IsAdvance S T p part bytes rest.now old new) (IsRefusal S p part bytes old) in
    subst Next e h
