-- The lines that are read, one after another.
use Rattle.std.proofs.Common.{◌≡◌, ◌+◌, List, [], ◌∷◌, ◌++◌, sym, ap, subst, ◌∙◌}
use Rattle.std.proofs.Common.{append_assoc}
use Rattle.std.proofs.Common.{reverse, Option, None, Some, Bor}
use Rattle.std.specs.Prelude.{MatchOption}
use Rattle.std.specs.List.{AllByRecursion}
use Rattle.std.proofs.lemmas.List.{append-nil, reverse-append}
use Rattle.bl_terms.specs.Programs.{Program}
use Rattle.bl_certline.specs.declared.line.CertLine.{CertLine}
use Rattle.bl_certline.specs.Fields.{Bytes}
use Rattle.bl_certtext.specs.declared.part.Part.{Part}
use Rattle.bl_certtext.specs.declared.part.Following.{Following}
use Rattle.bl_certtext.specs.Grammar.{Begins, Follows, IsStep}
use Rattle.bl_certtext.specs.Steps.{Advances, IsFirstLine, IsNoLine, IsReached, IsRefusedLine}
use Rattle.bl_certtext.specs.Texts.{IsCanonicalLine, Leads, line_text, start}
use Rattle.bl_certtext.specs.Texts.{text_of}
use Rattle.bl_certtext.proofs.FirstLines.{one_first}

-- a line more follows
Leads-more : (p : Program) (from : List Part) (ls : List CertLine) (part : Part) (expected next : List Part)
    (line : CertLine) → Leads p from ls (part ∷ expected) → Follows p part line next
    → Leads p from (ls ++ line ∷ []) (next ++ expected)
Leads-more p [] [] part expected next line h f = absurd cc
Leads-more p (first ∷ from) [] part expected next line h f =
    let same : first ≡ part = cc in
    let others : from ≡ expected = cc in
    (next, subst (λ q. Follows p q line next) (sym same) f, ap (λ (qs : List Part). next ++ qs) (sym others))
Leads-more p [] (l ∷ ls) part expected next line h f = absurd h
Leads-more p (first ∷ from) (l ∷ ls) part expected next line h f =
    (h.0, h.1, Leads-more p (h.0 ++ from) ls part expected next line h.2 f)

text-more : (ls : List CertLine) (line : CertLine) (rest : Bytes)
    → text_of ls ++ (line_text line ++ rest) ≡ text_of (ls ++ line ∷ []) ++ rest
text-more [] line rest = ap (λ (t : Bytes). t ++ rest) (sym (append-nil (line_text line)))
text-more (l ∷ ls) line rest =
    append_assoc (line_text l) (text_of ls) (line_text line ++ rest)
    ∙ ap (λ (t : Bytes). line_text l ++ t) (text-more ls line rest)
    ∙ sym (append_assoc (line_text l) (text_of (ls ++ line ∷ [])) rest)

canonical-more : (ls : List CertLine) (line : CertLine) → AllByRecursion IsCanonicalLine ls → IsCanonicalLine line
    → AllByRecursion IsCanonicalLine (ls ++ line ∷ [])
canonical-more [] line h k = (k, tt)
canonical-more (l ∷ ls) line h k = (h.0, canonical-more ls line h.1 k)

top : (p : Program) (ls : List CertLine) (front : List Part) (part : Part)
    → Leads p start ls (reverse (front ++ part ∷ [])) → Leads p start ls (part ∷ reverse front)
top p ls front part h = subst (Leads p start ls) (reverse-append front (part ∷ [])) h

-- a line more is reached
pub reached_more : (p : Program) (bytes : Bytes) (ls : List CertLine) (front : List Part) (part : Part) (rest : Bytes)
    (line : CertLine) (behind : Bytes) (new : List Part) → IsReached p bytes ls (front ++ part ∷ []) rest
    → Advances p part rest line behind front new → IsReached p bytes (ls ++ line ∷ []) new behind
reached_more p bytes ls front part rest line behind new h a = record {
  canonical = canonical-more ls line h.canonical a.first.canonical;
  grammar = subst (Leads p start (ls ++ line ∷ [])) (sym a.expected)
      (Leads-more p start ls part (reverse front) a.next line (top p ls front part h.grammar) a.follows);
  spelled = h.spelled ∙ ap (λ (t : Bytes). text_of ls ++ t) a.first.spelled ∙ text-more ls line behind;
}

-- the line that comes first isn't one with which the part begins, so no line is
pub refused_first : (p : Program) (part : Part) (bytes : Bytes) (first : Option (CertLine × Bor Bytes))
    (line : CertLine) (rest : Bor Bytes) (step : Option Following)
    → MatchOption first (IsNoLine bytes) (λ x. IsFirstLine bytes x.0 x.1.now) → first ≡ Some (line, rest)
    → IsStep p part line step → step ≡ None → IsRefusedLine p part bytes
refused_first p part bytes first line rest step found e none f =
    let Found : Option (CertLine × Bor Bytes) → Type 0 =
    λ o. MatchOption o (IsNoLine bytes) (λ x. IsFirstLine bytes x.0 x.1.now) in
    let here : IsFirstLine bytes line rest.now = subst Found e found in
    let not : ¬ Begins p part line = subst (IsStep p part line) f none in
    λ other behind canonical begins spelled.
    let there : IsFirstLine bytes other behind = record { canonical = canonical; spelled = spelled } in
    not (subst (Begins p part) (one_first bytes other line behind rest.now there here) begins)

-- the step over a line, as the reader takes it
pub reached_step : (p : Program) (bytes : Bytes) (ls more : List CertLine) (stack front : List Part) (part : Part)
    (rest : Bytes) (taken : Option (CertLine × Bor Bytes)) (line : CertLine) (behind : Bor Bytes) (new : List Part)
    → IsReached p bytes ls stack rest → stack ≡ front ++ part ∷ []
    → MatchOption taken (IsRefusedLine p part rest) (λ x. Advances p part rest x.0 x.1.now front new)
    → taken ≡ Some (line, behind) → more ≡ ls ++ line ∷ [] → IsReached p bytes more new behind.now
reached_step p bytes ls more stack front part rest taken line behind new h popped advanced e pushed =
    let Taken : Option (CertLine × Bor Bytes) → Type 0 =
    λ o. MatchOption o (IsRefusedLine p part rest) (λ x. Advances p part rest x.0 x.1.now front new) in
    let advance : Advances p part rest line behind.now front new = subst Taken e advanced in
    let reached = subst (λ s. IsReached p bytes ls s rest) popped h in
    subst (λ (ms : List CertLine). IsReached p bytes ms new behind.now) (sym pushed)
    (reached_more p bytes ls front part rest line behind.now new reached advance)
