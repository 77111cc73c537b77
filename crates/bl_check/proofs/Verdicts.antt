-- The verdict on a line of which one rule alone asks something.
use Rattle.std.proofs.Common.{◌≡◌, ℕ, zero, suc, Bool, true, false, List, [], ◌∷◌, ◌++◌, Option, refl, sym}
use Rattle.std.proofs.Common.{ap, subst, true≢false}
use Rattle.std.specs.Prelude.{◌↔◌, IsTrue, MatchOption}
use Rattle.std.specs.List.{AllByRecursion}
use Rattle.std.proofs.lemmas.List.Elements.{All-from_recursion}
use Rattle.bl_terms.specs.Programs.{Program}
use Rattle.bl_model.specs.View.{IsModel}
use Rattle.bl_cert_terms.specs.Certificates.{Certificate}
use Rattle.bl_certline.specs.declared.line.CertLine.{CertLine}
use Rattle.bl_certtext.specs.declared.part.Part.{Part}
use Rattle.bl_check_terms.specs.declared.rule.CertRule.{CertRule}
use Rattle.bl_check_terms.specs.Rules.{Keeps, KeepsAll, IsFirstBroken, rule_order}
use Rattle.bl_check_terms.proofs.Accepted.{standing}
use Rattle.bl_check_terms.proofs.Standing.{Stands}
use Rattle.bl_check_walk.specs.declared.site.Site.{Site}
use Rattle.bl_check_walk.specs.Judges.{StandsAt}
use Rattle.bl_check.specs.Keeping.{IsUnless}

-- ---- what stands

-- what is known of the certificate that was said before a line
pub stands : (Says : Certificate → Type 0) (p : Program) (site : Site) (line : CertLine) (c : Certificate) (part : Part)
    (expected : List Part) → IsModel p → StandsAt Says p site line c part expected → Stands p (part ∷ expected) c
stands Says p site line c part expected g h = standing p h.read.0 (part ∷ expected) c g h.read.1

-- ---- one rule of a list

-- the rule stands at the place
abbrev pub StandsThere : List CertRule → ℕ → CertRule → Type 0
StandsThere [] n rule = ⊥
StandsThere (r ∷ rs) zero rule = r ≡ rule
StandsThere (r ∷ rs) (suc n) rule = StandsThere rs n rule

-- those at the places before it are kept; and those at all other places
abbrev pub KeptBefore : (CertRule → Type 0) → List CertRule → ℕ → Type 0
KeptBefore P [] n = Unit {0}
KeptBefore P (r ∷ rs) zero = Unit {0}
KeptBefore P (r ∷ rs) (suc n) = P r × KeptBefore P rs n

abbrev pub OthersKept : (CertRule → Type 0) → List CertRule → ℕ → Type 0
OthersKept P [] n = Unit {0}
OthersKept P (r ∷ rs) zero = AllByRecursion P rs
OthersKept P (r ∷ rs) (suc n) = P r × OthersKept P rs n

kept_before : (P : CertRule → Type 0) (rs : List CertRule) (n : ℕ) → OthersKept P rs n → KeptBefore P rs n
kept_before P [] n others = tt
kept_before P (r ∷ rs) zero others = tt
kept_before P (r ∷ rs) (suc n) others = (others.0, kept_before P rs n others.1)

all_kept : (P : CertRule → Type 0) (rs : List CertRule) (n : ℕ) (rule : CertRule) → StandsThere rs n rule
    → OthersKept P rs n → P rule → AllByRecursion P rs
all_kept P [] n rule at others kept = tt
all_kept P (r ∷ rs) zero rule at others kept = (subst P (sym at) kept, others)
all_kept P (r ∷ rs) (suc n) rule at others kept = (others.0, all_kept P rs n rule at others.1 kept)

record Around (P : CertRule → Type 0) (rs : List CertRule) (rule : CertRule) : Type 0 where
  before : List CertRule
  behind : List CertRule
  order : rs ≡ before ++ rule ∷ behind
  kept : AllByRecursion P before

around : (P : CertRule → Type 0) (rs : List CertRule) (n : ℕ) (rule : CertRule) → StandsThere rs n rule
    → KeptBefore P rs n → Around P rs rule
around P [] n rule at kept = absurd at
around P (r ∷ rs) zero rule at kept =
    record { before = []; behind = rs; order = ap (λ (x : CertRule). x ∷ rs) at; kept = tt }
around P (r ∷ rs) (suc n) rule at kept =
    let h = around P rs n rule at kept.1 in
    record {
      before = r ∷ h.before;
      behind = h.behind;
      order = ap (λ (xs : List CertRule). r ∷ xs) h.order;
      kept = (kept.0, h.kept);
    }

-- ---- verdicts

-- what a judge tells: no rule, and then this holds too; or the first rule that the line breaks
abbrev pub Tells : Program → Certificate → Part → CertLine → Type 0 → Option CertRule → Type 0
Tells p c part line Then broken =
    MatchOption broken (KeepsAll p c part line × Then) (IsFirstBroken p c part line)

-- nine rules that ask nothing
abbrev pub AskNothing : Type 0
AskNothing =
    Unit {0} × (Unit {0} × (Unit {0} × (Unit {0} × (Unit {0}
    × (Unit {0} × (Unit {0} × (Unit {0} × (Unit {0} × Unit {0}))))))))

pub nine : AskNothing
nine = (tt, (tt, (tt, (tt, (tt, (tt, (tt, (tt, (tt, tt)))))))))

module _ (p : Program) (c : Certificate) (part : Part) (line : CertLine) where
  -- the line breaks the rule at the place, and keeps those before it
  pub breaks_first : (n : ℕ) (rule : CertRule) → StandsThere rule_order n rule
      → KeptBefore (Keeps p c part line) rule_order n → ¬ Keeps p c part line rule → IsFirstBroken p c part line rule
  breaks_first n rule at kept broken =
      let h = around (Keeps p c part line) rule_order n rule at kept in
      record {
        before = h.before;
        behind = h.behind;
        order = h.order;
        kept = All-from_recursion (Keeps p c part line) h.before h.kept;
        broken = broken;
      }

  pub keeps_each : (n : ℕ) (rule : CertRule) → StandsThere rule_order n rule
      → OthersKept (Keeps p c part line) rule_order n → Keeps p c part line rule → KeepsAll p c part line
  keeps_each n rule at others kept =
      All-from_recursion (Keeps p c part line) rule_order
      (all_kept (Keeps p c part line) rule_order n rule at others kept)

  -- the one rule that asks something is tested
  pub tells : (n : ℕ) (rule : CertRule) (Then : Type 0) (kept : Bool) (broken : Option CertRule)
      → StandsThere rule_order n rule → OthersKept (Keeps p c part line) rule_order n → IsUnless kept rule broken
      → IsTrue kept ↔ Keeps p c part line rule → (IsTrue kept → Then) → Tells p c part line Then broken
  tells n rule Then true broken at others e test then =
      subst (λ (b : Option CertRule). Tells p c part line Then b) (sym e)
      (keeps_each n rule at others (test.0 refl), then refl)
  tells n rule Then false broken at others e test then =
      subst (λ (b : Option CertRule). Tells p c part line Then b) (sym e)
      (breaks_first n rule at (kept_before (Keeps p c part line) rule_order n others)
      (λ k. true≢false (sym (test.1 k))))
