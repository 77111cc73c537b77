-- The first line that breaks a rule.
use Rattle.std.proofs.Common.{◌≡◌, ℕ, ◌+◌, ◌<◌, ◌≤◌, List, [], ◌∷◌, ◌++◌, length, take, get_or, Option, Some, None, Ok}
use Rattle.std.proofs.Common.{Err, Result, refl, sym, ap, subst, ◌∙◌, arith, inl, inr, append_assoc, length-append}
use Rattle.std.proofs.lemmas.Bool.{cases_lt}
use Rattle.std.proofs.lemmas.List.{append-nil, take-append-le, get_or_append_left}
use Rattle.std.proofs.Math.Seq.{take-append_seam, get_or-append_seam}
use Rattle.bl_aux.specs.declared.fault.AuxRule.{AuxRule}
use Rattle.bl_aux.specs.declared.fault.AuxError.{AuxError}
use Rattle.bl_aux.specs.declared.fault.AuxError.TheVariants.{Fault, Memory}
use Rattle.bl_aux.specs.declared.fault.AuxFault.{AuxFault}
use Rattle.bl_aux.specs.Given.{Sizes, line_rule}
use Rattle.bl_limits.specs.declared.TheConstants.{MAX_TEXT_BYTES}
use Rattle.bl_text.specs.Lines.{lines_of}
use Rattle.bl_aux.specs.Texts.{KeepsRules, BreaksFirst, IsFirstFault, at_line, IsRefused}
use Rattle.bl_aux.specs.Drafts.{Holding, IsHeld, Reads, after_line, after_lines, on_line}
use Rattle.bl_aux.proofs.EntryLaws.{held_by, Follows, follows}

abbrev pub Lines : Type 0
Lines = List (List ℕ)

-- the rule of the line at a place
abbrev pub rule_at : Sizes → Lines → ℕ → Option AuxRule
rule_at sizes lines place = line_rule sizes (take place lines) (get_or lines place [])

rule_at-before : (sizes : Sizes) (done more : Lines) (place : ℕ) → place < length done
    → rule_at sizes (done ++ more) place ≡ rule_at sizes done place
rule_at-before sizes done more place lt =
    let le : place ≤ length done = omega arith in
    rw (take-append-le place done more le, get_or_append_left done more [] place lt) refl

pub rule_at-seam : (sizes : Sizes) (done : Lines) (line : List ℕ) (rest : Lines)
    → rule_at sizes (done ++ line ∷ rest) (length done) ≡ line_rule sizes done line
rule_at-seam sizes done line rest = rw (take-append_seam done (line ∷ rest), get_or-append_seam done line rest []) refl

kept-push : (sizes : Sizes) (done : Lines) (line : List ℕ) → KeepsRules sizes done → line_rule sizes done line ≡ None
    → KeepsRules sizes (done ++ line ∷ [])
kept-push sizes done line kept none place lt =
    elim (cases_lt place (length done)) [
      | inl before ↦ rule_at-before sizes done (line ∷ []) place before ∙ kept place before
      | inr past ↦
          let last : place ≡ length done = omega (arith, length-append done (line ∷ [])) in
          rw last (rule_at-seam sizes done line [] ∙ none)
    ]

breaks-here : (sizes : Sizes) (done : Lines) (line : List ℕ) (rest : Lines) (rule : AuxRule) → KeepsRules sizes done
    → line_rule sizes done line ≡ Some rule → BreaksFirst sizes (done ++ line ∷ rest) (length done) rule
breaks-here sizes done line rest rule kept broken = record {
  within = omega (arith, length-append done (line ∷ rest));
  broken = rule_at-seam sizes done line rest ∙ broken;
  kept = λ earlier lt. rule_at-before sizes done (line ∷ rest) earlier lt ∙ kept earlier lt;
}

-- what the reader ends with, beside the rules
abbrev pub Ends : Sizes → Lines → Result Holding AuxFault → Type 0
Ends sizes lines (Ok held) = KeepsRules sizes lines × (held ≡ held_by sizes lines)
Ends sizes lines (Err fault) =
    (place : ℕ) × ((rule : AuxRule) × BreaksFirst sizes lines place rule
    × (fault ≡ record { rule = rule; line = place + 1 }))

ends-step : (sizes : Sizes) (done : Lines) (line : List ℕ) (rest : Lines) (broken : Option AuxRule)
    → KeepsRules sizes done → line_rule sizes done line ≡ broken → Follows sizes done line broken
    → (KeepsRules sizes (done ++ line ∷ [])
    → Ends sizes (done ++ line ∷ rest) (after_lines (held_by sizes (done ++ line ∷ [])) (length done + 1 + 1) rest))
    → Ends sizes (done ++ line ∷ rest)
    (on_line (after_line (held_by sizes done) line) (length done + 1)
    (λ held. after_lines held (length done + 1 + 1) rest))
ends-step sizes done line rest None kept e f more = rw f (more (kept-push sizes done line kept e))
ends-step sizes done line rest (Some rule) kept e f more =
    rw f (length done, (rule, breaks-here sizes done line rest rule kept e, refl))

pub ends : (sizes : Sizes) (done lines : Lines) → KeepsRules sizes done
    → Ends sizes (done ++ lines) (after_lines (held_by sizes done) (length done + 1) lines)
unfolding after_lines
ends sizes done [] kept =
    subst (λ (ls : Lines). KeepsRules sizes ls × (held_by sizes done ≡ held_by sizes ls)) (sym (append-nil done))
    (kept, refl)
ends sizes done (line ∷ lines) kept =
    let more = ends sizes (done ++ line ∷ []) lines in
    ends-step sizes done line lines (line_rule sizes done line) kept refl (follows sizes done line)
    (λ kept_more.
    let count : length (done ++ line ∷ []) + 1 ≡ length done + 1 + 1 = omega (arith, length-append done (line ∷ [])) in
    let whole : (done ++ line ∷ []) ++ lines ≡ done ++ line ∷ lines = append_assoc done (line ∷ []) lines in
    subst (λ (k : ℕ). Ends sizes (done ++ line ∷ lines) (after_lines (held_by sizes (done ++ line ∷ [])) k lines)) count
    (subst (λ (ls : Lines). Ends sizes ls
    (after_lines (held_by sizes (done ++ line ∷ [])) (length (done ++ line ∷ []) + 1) lines)) whole
    (more kept_more)))

pub ends_of : (sizes : Sizes) (lines : Lines) → Ends sizes lines (after_lines (held_by sizes []) 1 lines)
ends_of sizes lines = ends sizes [] lines (λ place lt. absurd (omega arith))

ended-ok : (sizes : Sizes) (text : List ℕ) (held : Holding) → Ends sizes (lines_of text) (Ok held)
    → IsHeld sizes text held
ended-ok sizes text held e = (e.0, ap (λ (h : Holding). h.given) e.1)

-- what a reader that went through holds
pub held_after : (sizes : Sizes) (text : List ℕ) (held : Holding)
    → after_lines (held_by sizes []) 1 (lines_of text) ≡ Ok held → IsHeld sizes text held
held_after sizes text held e =
    ended-ok sizes text held (subst (Ends sizes (lines_of text)) e (ends_of sizes (lines_of text)))

-- and where it stopped
pub fault_after : (sizes : Sizes) (text : List ℕ) (fault : AuxFault) → length text ≤ MAX_TEXT_BYTES
    → after_lines (held_by sizes []) 1 (lines_of text) ≡ Err fault → IsFirstFault sizes text fault
fault_after sizes text fault short e =
    let end : Ends sizes (lines_of text) (Err fault) =
    subst (Ends sizes (lines_of text)) e (ends_of sizes (lines_of text)) in
    at_line short end.0 (end.1.0) (end.1.1) (end.1.2)

pub refused_after : (sizes : Sizes) (text : List ℕ) (left : Holding) (error : AuxError) → length text ≤ MAX_TEXT_BYTES
    → Reads (Err error) left (after_lines (held_by sizes []) 1 (lines_of text)) → IsRefused sizes text error
refused_after sizes text left (Fault fault) short e = fault_after sizes text fault short e
refused_after sizes text left Memory short e = tt
