-- Right lines that stand one after another.
use Rattle.std.proofs.Common.{◌≡◌, List, [], ◌∷◌, ◌++◌, sym, subst}
use Rattle.std.proofs.lemmas.List.Elements.{All-from_recursion}
use Rattle.bl_terms.specs.Programs.{Program}
use Rattle.bl_cert_terms.specs.Certificates.{Certificate}
use Rattle.bl_certline.specs.declared.line.CertLine.{CertLine}
use Rattle.bl_certtext.specs.declared.part.Part.{Part}
use Rattle.bl_certtext.specs.Grammar.{parts_behind}
use Rattle.bl_check_terms.specs.declared.rule.CertRule.TheVariants as rules
use Rattle.bl_check_terms.specs.Reading.{with_line}
use Rattle.bl_check_terms.specs.Rules.{Keeps, KeepsAll, rule_order}
use Rattle.bl_check_terms.specs.Accepting.{IsRightLine, Reads}

-- the rules, each in its turn
pub all_rules : (p : Program) (c : Certificate) (part : Part) (line : CertLine) → Keeps p c part line rules.Sense
    → Keeps p c part line rules.Point → Keeps p c part line rules.Best → Keeps p c part line rules.Follower
    → Keeps p c part line rules.Size → Keeps p c part line rules.Inverse → Keeps p c part line rules.Tight
    → Keeps p c part line rules.Response → Keeps p c part line rules.Cited → Keeps p c part line rules.Proof
    → KeepsAll p c part line
all_rules p c part line sense point best follower size inverse tight response cited proof =
    All-from_recursion (Keeps p c part line) rule_order
    (sense, (point, (best, (follower, (size, (inverse, (tight, (response, (cited, (proof, tt))))))))))

-- a right line before the others
pub reads_first : (p : Program) (part : Part) (rest left : List Part) (c d e : Certificate) (line : CertLine)
    (ls : List CertLine) → IsRightLine p c part line → with_line p part line c ≡ d
    → Reads p (parts_behind p part line ++ rest) d ls left e → Reads p (part ∷ rest) c (line ∷ ls) left e
reads_first p part rest left c d e line ls right same h =
    (right, subst (λ (x : Certificate). Reads p (parts_behind p part line ++ rest) x ls left e) (sym same) h)

-- lines before others
pub reads_on : (p : Program) (from middle left : List Part) (c d e : Certificate) (ls ms : List CertLine)
    → Reads p from c ls middle d → Reads p middle d ms left e → Reads p from c (ls ++ ms) left e
reads_on p from middle left c d e [] ms h k =
    subst (λ (x : Certificate). Reads p from x ms left e) h.1
    (subst (λ (ps : List Part). Reads p ps d ms left e) h.0 k)
reads_on p [] middle left c d e (l ∷ ls) ms h k = absurd h
reads_on p (part ∷ from) middle left c d e (l ∷ ls) ms h k =
    (h.0, reads_on p (parts_behind p part l ++ from) middle left (with_line p part l c) d e ls ms h.1 k)
