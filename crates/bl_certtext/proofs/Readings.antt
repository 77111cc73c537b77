-- A text has one reading at most.
use Rattle.std.proofs.Common.{◌≡◌, ◌⊎◌, ℕ, ◌+◌, List, [], ◌∷◌, ◌++◌, length, refl, sym, ap, subst, ◌∙◌, arith}
use Rattle.std.proofs.Common.{inl, inr}
use Rattle.std.proofs.Common.{append_assoc}
use Rattle.std.specs.List.{AllByRecursion}
use Rattle.std.proofs.lemmas.List.{append-nil}
use Rattle.bl_terms.specs.Programs.{Program}
use Rattle.bl_certline.specs.declared.line.CertLine.{CertLine}
use Rattle.bl_certline.specs.Fields.{Bytes}
use Rattle.bl_certtext.specs.declared.part.Part.{Part}
use Rattle.bl_certtext.specs.Grammar.{Follows, parts_behind}
use Rattle.bl_certtext.specs.Laws.{HaveOneReading}
use Rattle.bl_certtext.specs.Texts.{FailsFirst, IsCanonicalLine, IsCertificate, IsRefused, Leads, line_text, start}
use Rattle.bl_certtext.specs.Texts.{text_of}
use Rattle.bl_certtext.proofs.FirstLines.{one_first}

-- the walk over a text ends here: something is refused, or nothing is left and nothing is expected
abbrev Stops : Program → List Part → Bytes → Type 0
Stops p expected rest = IsRefused p expected rest ⊎ ((expected ≡ []) × (rest ≡ []))

cancel : (front xs ys : Bytes) → front ++ xs ≡ front ++ ys → xs ≡ ys
cancel [] xs ys e = e
cancel (b ∷ front) xs ys e = cancel front xs ys cc

-- where a line may follow, the walk goes on
goes_on : (p : Program) (part : Part) (from next : List Part) (left : List Part) (line : CertLine) (rest r : Bytes)
    → left ≡ part ∷ from → IsCanonicalLine line → Follows p part line next → r ≡ line_text line ++ rest
    → Stops p left r → ⊥
goes_on p part from next left line rest r same canonical follows e (inl refused) =
    let here : IsRefused p (part ∷ from) r = subst (λ qs. IsRefused p qs r) same refused in
    here line rest canonical follows.begins e
goes_on p part from next left line rest r same canonical follows e (inr ended) =
    let none : [] ≡ part ∷ from = sym ended.0 ∙ same in
    absurd cc

regrouped : (line : CertLine) (ls : List CertLine) (rest : Bytes)
    → text_of (line ∷ ls) ++ rest ≡ line_text line ++ (text_of ls ++ rest)
regrouped line ls rest = append_assoc (line_text line) (text_of ls) rest

record AreSame (a b : List CertLine) (left expected : List Part) (r s : Bytes) : Type 0 where
  lines : a ≡ b
  parts : left ≡ expected
  rests : r ≡ s

-- two walks over one text that end are one
same_walk : (p : Program) (from : List Part) (a b : List CertLine) (left expected : List Part) (r s : Bytes)
    → AllByRecursion IsCanonicalLine a → AllByRecursion IsCanonicalLine b → Leads p from a left
    → Leads p from b expected → text_of a ++ r ≡ text_of b ++ s → Stops p left r → Stops p expected s
    → AreSame a b left expected r s
same_walk p from [] [] left expected r s ca cb la lb e ra sb = record { lines = refl; parts = la ∙ sym lb; rests = e }
same_walk p [] [] (y ∷ ys) left expected r s ca cb la lb e ra sb = absurd lb
same_walk p (part ∷ from) [] (y ∷ ys) left expected r s ca cb la lb e ra sb =
    absurd (goes_on p part from lb.0 left y (text_of ys ++ s) r la cb.0 lb.1 (e ∙ regrouped y ys s) ra)
same_walk p [] (x ∷ xs) b left expected r s ca cb la lb e ra sb = absurd la
same_walk p (part ∷ from) (x ∷ xs) [] left expected r s ca cb la lb e ra sb =
    absurd (goes_on p part from la.0 expected x (text_of xs ++ r) s lb ca.0 la.1 (sym e ∙ regrouped x xs r) sb)
same_walk p (part ∷ from) (x ∷ xs) (y ∷ ys) left expected r s ca cb la lb e ra sb =
    let first = sym (regrouped x xs r) ∙ e ∙ regrouped y ys s in
    let same : x ≡ y =
    one_first (line_text x ++ (text_of xs ++ r)) x y (text_of xs ++ r) (text_of ys ++ s)
    (record { canonical = ca.0; spelled = refl }) (record { canonical = cb.0; spelled = first }) in
    let rests : text_of xs ++ r ≡ text_of ys ++ s =
    cancel (line_text x) (text_of xs ++ r) (text_of ys ++ s)
    (first ∙ ap (λ (l : CertLine). line_text l ++ (text_of ys ++ s)) (sym same)) in
    let nexts : la.0 ≡ lb.0 =
    la.1.next_parts ∙ ap (λ (l : CertLine). parts_behind p part l) same ∙ sym lb.1.next_parts in
    let others : Leads p (lb.0 ++ from) xs left =
    subst (λ (qs : List Part). Leads p (qs ++ from) xs left) nexts la.2 in
    let walk = same_walk p (lb.0 ++ from) xs ys left expected r s ca.1 cb.1 others lb.2 rests ra sb in
    record {
      lines = ap (λ (l : CertLine). l ∷ xs) same ∙ ap (λ (ls : List CertLine). y ∷ ls) walk.lines;
      parts = walk.parts;
      rests = walk.rests;
    }

whole : (p : Program) (bytes : Bytes) (ls : List CertLine) → IsCertificate p bytes ls → bytes ≡ text_of ls ++ []
whole p bytes ls h = h.spelled ∙ sym (append-nil (text_of ls))

one : (p : Program) (bytes : Bytes) (a b : List CertLine) → IsCertificate p bytes a → IsCertificate p bytes b → a ≡ b
one p bytes a b h k =
    (same_walk p start a b [] [] [] [] h.canonical k.canonical h.grammar k.grammar
    (sym (whole p bytes a h) ∙ whole p bytes b k) (inr (refl, refl)) (inr (refl, refl))).lines

one_fault : (p : Program) (bytes : Bytes) (m n : ℕ) → FailsFirst p bytes m → FailsFirst p bytes n → m ≡ n
one_fault p bytes m n h k =
    let walk =
    same_walk p start h.before k.before h.expected k.expected h.rest k.rest h.canonical k.canonical h.grammar k.grammar
    (sym h.spelled ∙ k.spelled) (inl h.refused) (inl k.refused) in
    h.counted ∙ ap (λ (ls : List CertLine). length ls + 1) walk.lines ∙ sym k.counted

never_both : (p : Program) (bytes : Bytes) (ls : List CertLine) (n : ℕ) → IsCertificate p bytes ls
    → FailsFirst p bytes n → ⊥
never_both p bytes ls n h k =
    let walk =
    same_walk p start ls k.before [] k.expected [] k.rest h.canonical k.canonical h.grammar k.grammar
    (sym (whole p bytes ls h) ∙ k.spelled) (inr (refl, refl)) (inl k.refused) in
    let there : IsRefused p [] k.rest = subst (λ qs. IsRefused p qs k.rest) (sym walk.parts) k.refused in
    omega (arith, there, ap length walk.rests)

pub have_one_reading : HaveOneReading
have_one_reading p bytes = record { one = one p bytes; one_fault = one_fault p bytes; never_both = never_both p bytes }
