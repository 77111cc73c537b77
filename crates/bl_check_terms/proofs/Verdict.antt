-- A text has one verdict at most.
use Rattle.std.proofs.Common.{◌≡◌, ◌⊎◌, ℕ, ◌+◌, List, [], ◌∷◌, ◌++◌, length, refl, sym, ap, subst, ◌∙◌, arith}
use Rattle.std.proofs.Common.{inl, inr, append_assoc}
use Rattle.std.specs.Prelude.{All}
use Rattle.std.proofs.lemmas.Bool.{eqb-false}
use Rattle.std.proofs.lemmas.List.{append-nil}
use Rattle.std.proofs.lemmas.List.Elements.{All-head, All-tail}
use Rattle.bl_text.specs.Lines.{IsLine, ended}
use Rattle.bl_terms.specs.Programs.{Program}
use Rattle.bl_cert_terms.specs.declared.stated.Statement.{Statement}
use Rattle.bl_cert_terms.specs.Certificates.{Certificate}
use Rattle.bl_certline.specs.declared.line.CertLine.{CertLine}
use Rattle.bl_certline.specs.Fields.{Bytes}
use Rattle.bl_certline.specs.Lines.{IsWellFormed, spelling}
use Rattle.bl_certline.proofs.LineReading.{one_line}
use Rattle.bl_certline.proofs.LineWords.{line-spelling}
use Rattle.bl_certtext.specs.declared.part.Part.{Part}
use Rattle.bl_certtext.specs.Grammar.{parts_behind}
use Rattle.bl_certtext.specs.Texts.{line_text, start, text_of}
use Rattle.bl_check_terms.specs.declared.rule.CertRule.{CertRule}
use Rattle.bl_check_terms.specs.declared.rule.CertRule.TheVariants as rules
use Rattle.bl_check_terms.specs.Reading.{nothing, with_line}
use Rattle.bl_check_terms.specs.Rules.{Keeps, IsFirstBroken}
use Rattle.bl_check_terms.specs.Accepting.{IsPlaced, IsRightLine, Reads, IsTextOf, Accepts, HasLine, HasNoLine}
use Rattle.bl_check_terms.specs.Accepting.{IsRefusedAt, IsRefusedBy, FirstRefusal, HaveOneVerdict}

-- ---- the first line

-- bytes up to their line feed come first in one way
cut_alike : (xs ys r s : Bytes) → IsLine xs → IsLine ys → ended xs ++ r ≡ ended ys ++ s → (xs ≡ ys) × (r ≡ s)
cut_alike [] [] r s h k e = (refl, cc)
cut_alike [] (y ∷ ys) r s h k e = absurd (eqb-false y 10 k.0 cc)
cut_alike (x ∷ xs) [] r s h k e = absurd (eqb-false x 10 h.0 cc)
cut_alike (x ∷ xs) (y ∷ ys) r s h k e =
    let head : x ≡ y = cc in
    let rest = cut_alike xs ys r s h.1 k.1 cc in
    let tail : xs ≡ ys = rest.0 in
    (cc, rest.1)

record IsSameLine (a b : CertLine) (r s : Bytes) : Type 0 where
  line : a ≡ b
  behind : r ≡ s

-- and one well-formed line comes first
same_line : (a b : CertLine) (r s : Bytes) → IsWellFormed a → IsWellFormed b
    → line_text a ++ r ≡ line_text b ++ s → IsSameLine a b r s
same_line a b r s h k e =
    let same = cut_alike (spelling a) (spelling b) r s (line-spelling a h) (line-spelling b k) e in
    record { line = one_line a b h k same.0; behind = same.1 }

-- ---- what refuses a line

all_seam : {A : Type 0} (P : A → Type 0) (xs ys : List A) (x : A) → All P (xs ++ x ∷ ys) → P x
all_seam P [] ys x h = All-head P x ys h
all_seam P (y ∷ xs) ys x h = all_seam P xs ys x (All-tail P y (xs ++ x ∷ ys) h)

-- the first element that fails is one
first_alike : {A : Type 0} (P : A → Type 0) (xs ys us vs : List A) (x y : A) → xs ++ x ∷ us ≡ ys ++ y ∷ vs
    → All P xs → All P ys → ¬ P x → ¬ P y → x ≡ y
first_alike P [] [] us vs x y e h k nx ny = cc
first_alike P [] (b ∷ ys) us vs x y e h k nx ny =
    let same : b ≡ x = cc in
    absurd (nx (subst P same (All-head P b ys k)))
first_alike P (a ∷ xs) [] us vs x y e h k nx ny =
    let same : a ≡ y = cc in
    absurd (ny (subst P same (All-head P a xs h)))
first_alike P (a ∷ xs) (b ∷ ys) us vs x y e h k nx ny =
    first_alike P xs ys us vs x y (cc) (All-tail P a xs h) (All-tail P b ys k) nx ny

-- the line that comes next isn't in its place
record IsMisplaced (p : Program) (part : Part) (rest : Bytes) : Type 0 where
  line : CertLine
  has : HasLine p part rest line
  misplaced : ¬ IsPlaced p part line

-- it is, and the rule is the first of the others that it breaks
record BreaksRule (p : Program) (c : Certificate) (part : Part) (rest : Bytes) (rule : CertRule) : Type 0 where
  line : CertLine
  has : HasLine p part rest line
  placed : IsPlaced p part line
  first : IsFirstBroken p c part line rule

-- the three ways in which a rule refuses the next line
abbrev Refuses : Program → Certificate → Part → Bytes → CertRule → Type 0
Refuses p c part rest rule =
    ((rule ≡ rules.Syntax) × HasNoLine p part rest)
    ⊎ (((rule ≡ rules.Place) × IsMisplaced p part rest) ⊎ BreaksRule p c part rest rule)

refuses : (p : Program) (c : Certificate) (part : Part) (rest : Bytes) (rule : CertRule)
    → IsRefusedAt p c part rest rule → Refuses p c part rest rule
refuses p c part rest rules.Syntax h = inl (refl, h)
refuses p c part rest rules.Place h =
    inr (inl (refl, record { line = h.0; has = h.1; misplaced = h.2 }))
refuses p c part rest rules.Tail h = absurd h
refuses p c part rest rule h =
    inr (inr (record { line = h.0; has = h.1; placed = h.2; first = h.3 }))

-- the lines that come next are one
next_alike : (p : Program) (part : Part) (rest : Bytes) (a b : CertLine) → HasLine p part rest a
    → HasLine p part rest b → a ≡ b
next_alike p part rest a b h k =
    (same_line a b h.behind k.behind h.formed.well_formed k.formed.well_formed (sym h.spelled ∙ k.spelled)).line

-- a right line isn't refused
right_stands : (p : Program) (c : Certificate) (part : Part) (rest : Bytes) (line : CertLine) (rule : CertRule)
    → IsRightLine p c part line → HasLine p part rest line → ¬ Refuses p c part rest rule
right_stands p c part rest line rule right has (inl none) = none.1 line has.behind has.formed has.spelled
right_stands p c part rest line rule right has (inr (inl at)) =
    at.1.misplaced
    (subst (IsPlaced p part) (next_alike p part rest line at.1.line has at.1.has) right.placed)
right_stands p c part rest line rule right has (inr (inr breaks)) =
    let same = next_alike p part rest breaks.line line breaks.has has in
    let kept : All (Keeps p c part line) (breaks.first.before ++ rule ∷ breaks.first.behind) =
    subst (All (Keeps p c part line)) breaks.first.order right.rules in
    let keeps = all_seam (Keeps p c part line) breaks.first.before breaks.first.behind rule kept in
    breaks.first.broken (subst (λ (l : CertLine). Keeps p c part l rule) (sym same) keeps)

-- two rules that refuse a line are one
one_refusal : (p : Program) (c : Certificate) (part : Part) (rest : Bytes) (q r : CertRule)
    → Refuses p c part rest q → Refuses p c part rest r → q ≡ r
one_refusal p c part rest q r (inl a) (inl b) = a.0 ∙ sym b.0
one_refusal p c part rest q r (inl a) (inr (inl b)) =
    absurd (a.1 b.1.line b.1.has.behind b.1.has.formed b.1.has.spelled)
one_refusal p c part rest q r (inl a) (inr (inr b)) =
    absurd (a.1 b.line b.has.behind b.has.formed b.has.spelled)
one_refusal p c part rest q r (inr (inl a)) (inl b) =
    absurd (b.1 a.1.line a.1.has.behind a.1.has.formed a.1.has.spelled)
one_refusal p c part rest q r (inr (inl a)) (inr (inl b)) = a.0 ∙ sym b.0
one_refusal p c part rest q r (inr (inl a)) (inr (inr b)) =
    absurd (a.1.misplaced (subst (IsPlaced p part) (next_alike p part rest b.line a.1.line b.has a.1.has) b.placed))
one_refusal p c part rest q r (inr (inr a)) (inl b) =
    absurd (b.1 a.line a.has.behind a.has.formed a.has.spelled)
one_refusal p c part rest q r (inr (inr a)) (inr (inl b)) =
    absurd (b.1.misplaced (subst (IsPlaced p part) (next_alike p part rest a.line b.1.line a.has b.1.has) a.placed))
one_refusal p c part rest q r (inr (inr a)) (inr (inr b)) =
    let same = next_alike p part rest b.line a.line b.has a.has in
    let other : IsFirstBroken p c part a.line r =
    subst (λ (l : CertLine). IsFirstBroken p c part l r) same b.first in
    first_alike (Keeps p c part a.line) a.first.before other.before a.first.behind other.behind q r
    (sym a.first.order ∙ other.order) a.first.kept other.kept a.first.broken other.broken

one_refused_by : (p : Program) (c : Certificate) (expected : List Part) (rest : Bytes) (q r : CertRule)
    → IsRefusedBy p c expected rest q → IsRefusedBy p c expected rest r → q ≡ r
one_refused_by p c [] rest q r h k = h.0 ∙ sym k.0
one_refused_by p c (part ∷ expected) rest q r h k =
    one_refusal p c part rest q r (refuses p c part rest q h) (refuses p c part rest r k)

-- ---- the walk over the lines

-- it ends here: something is refused, or nothing is left and nothing is expected
abbrev Stops : Program → Certificate → List Part → Bytes → Type 0
Stops p c expected rest = ((rule : CertRule) × IsRefusedBy p c expected rest rule) ⊎ ((expected ≡ []) × (rest ≡ []))

-- where a right line comes next, the walk goes on
goes_on : (p : Program) (c : Certificate) (part : Part) (from : List Part) (line : CertLine) (rest behind : Bytes)
    → IsRightLine p c part line → rest ≡ line_text line ++ behind → ¬ Stops p c (part ∷ from) rest
goes_on p c part from line rest behind right e (inl (rule, refused)) =
    right_stands p c part rest line rule right (record { formed = right.formed; behind = behind; spelled = e })
    (refuses p c part rest rule refused)
goes_on p c part from line rest behind right e (inr ended) = let none = ended.0 in absurd cc

regrouped : (line : CertLine) (ls : List CertLine) (rest : Bytes)
    → text_of (line ∷ ls) ++ rest ≡ line_text line ++ (text_of ls ++ rest)
regrouped line ls rest = append_assoc (line_text line) (text_of ls) rest

record AreSame (a b : List CertLine) (left expected : List Part) (d e : Certificate) (r s : Bytes) : Type 0 where
  lines : a ≡ b
  parts : left ≡ expected
  said : d ≡ e
  rests : r ≡ s

stops_at : (p : Program) (c d : Certificate) (from left : List Part) (rest : Bytes) → left ≡ from → d ≡ c
    → Stops p d left rest → Stops p c from rest
stops_at p c d from left rest parts said h =
    subst (λ (x : Certificate). Stops p x from rest) said (subst (λ (ps : List Part). Stops p d ps rest) parts h)

-- two walks over one text that end are one
same_walk : (p : Program) (from : List Part) (c : Certificate) (a b : List CertLine) (left expected : List Part)
    (d e : Certificate) (r s : Bytes) → Reads p from c a left d → Reads p from c b expected e
    → text_of a ++ r ≡ text_of b ++ s → Stops p d left r → Stops p e expected s → AreSame a b left expected d e r s
same_walk p from c [] [] left expected d e r s ra rb t sa sb =
    record { lines = refl; parts = ra.0 ∙ sym rb.0; said = ra.1 ∙ sym rb.1; rests = t }
same_walk p [] c [] (y ∷ ys) left expected d e r s ra rb t sa sb = absurd rb
same_walk p (part ∷ from) c [] (y ∷ ys) left expected d e r s ra rb t sa sb =
    absurd (goes_on p c part from y r (text_of ys ++ s) rb.0 (t ∙ regrouped y ys s)
    (stops_at p c d (part ∷ from) left r ra.0 ra.1 sa))
same_walk p [] c (x ∷ xs) b left expected d e r s ra rb t sa sb = absurd ra
same_walk p (part ∷ from) c (x ∷ xs) [] left expected d e r s ra rb t sa sb =
    absurd (goes_on p c part from x s (text_of xs ++ r) ra.0 (sym t ∙ regrouped x xs r)
    (stops_at p c e (part ∷ from) expected s rb.0 rb.1 sb))
same_walk p (part ∷ from) c (x ∷ xs) (y ∷ ys) left expected d e r s ra rb t sa sb =
    let first = same_line x y (text_of xs ++ r) (text_of ys ++ s) ra.0.formed.well_formed rb.0.formed.well_formed
    (sym (regrouped x xs r) ∙ t ∙ regrouped y ys s) in
    let others : Reads p (parts_behind p part y ++ from) (with_line p part y c) xs left d =
    subst (λ (l : CertLine). Reads p (parts_behind p part l ++ from) (with_line p part l c) xs left d) first.line
    ra.1 in
    let walk = same_walk p (parts_behind p part y ++ from) (with_line p part y c) xs ys left expected d e r s others
    rb.1 first.behind sa sb in
    record {
      lines = ap (λ (l : CertLine). l ∷ xs) first.line ∙ ap (λ (ls : List CertLine). y ∷ ls) walk.lines;
      parts = walk.parts;
      said = walk.said;
      rests = walk.rests;
    }

-- ---- the verdict

whole : (p : Program) (bytes : Bytes) (c : Certificate) (h : IsTextOf p bytes c) → bytes ≡ text_of h.lines ++ []
whole p bytes c h = h.spelled ∙ sym (append-nil (text_of h.lines))

one_statement : (p : Program) (bytes : Bytes) (s t : Statement) → Accepts p bytes s → Accepts p bytes t → s ≡ t
one_statement p bytes s t (c, h, states) (d, k, states') =
    let walk = same_walk p start nothing h.lines k.lines [] [] c d [] [] h.reads k.reads
    (sym (whole p bytes c h) ∙ whole p bytes d k) (inr (refl, refl)) (inr (refl, refl)) in
    sym states ∙ ap (λ (x : Certificate). x.statement) walk.said ∙ states'

refused_walk : (p : Program) (bytes : Bytes) (m n : ℕ) (q r : CertRule) (h : FirstRefusal p bytes m q)
    (k : FirstRefusal p bytes n r) → AreSame h.before k.before h.expected k.expected h.said k.said h.rest k.rest
refused_walk p bytes m n q r h k =
    same_walk p start nothing h.before k.before h.expected k.expected h.said k.said h.rest k.rest h.reads k.reads
    (sym h.spelled ∙ k.spelled) (inl (q, h.refused)) (inl (r, k.refused))

one_number : (p : Program) (bytes : Bytes) (m n : ℕ) (q r : CertRule) → FirstRefusal p bytes m q
    → FirstRefusal p bytes n r → m ≡ n
one_number p bytes m n q r h k =
    h.counted ∙ ap (λ (ls : List CertLine). length ls + 1) (refused_walk p bytes m n q r h k).lines ∙ sym k.counted

one_rule : (p : Program) (bytes : Bytes) (m n : ℕ) (q r : CertRule) → FirstRefusal p bytes m q
    → FirstRefusal p bytes n r → q ≡ r
one_rule p bytes m n q r h k =
    let walk = refused_walk p bytes m n q r h k in
    let at_rest : IsRefusedBy p h.said h.expected k.rest q =
    subst (λ (bs : Bytes). IsRefusedBy p h.said h.expected bs q) walk.rests h.refused in
    let at_parts : IsRefusedBy p h.said k.expected k.rest q =
    subst (λ (ps : List Part). IsRefusedBy p h.said ps k.rest q) walk.parts at_rest in
    one_refused_by p k.said k.expected k.rest q r
    (subst (λ (x : Certificate). IsRefusedBy p x k.expected k.rest q) walk.said at_parts) k.refused

never_both : (p : Program) (bytes : Bytes) (s : Statement) (n : ℕ) (r : CertRule) → Accepts p bytes s
    → FirstRefusal p bytes n r → ⊥
never_both p bytes s n r (c, h, states) k =
    let walk = same_walk p start nothing h.lines k.before [] k.expected c k.said [] k.rest h.reads k.reads
    (sym (whole p bytes c h) ∙ k.spelled) (inr (refl, refl)) (inl (r, k.refused)) in
    let there : IsRefusedBy p k.said [] k.rest r =
    subst (λ (ps : List Part). IsRefusedBy p k.said ps k.rest r) (sym walk.parts) k.refused in
    omega (arith, there.1, ap length walk.rests)

pub have_one_verdict : HaveOneVerdict
have_one_verdict p bytes = record {
  one_statement = one_statement p bytes;
  one_line = one_number p bytes;
  one_rule = one_rule p bytes;
  never_both = never_both p bytes;
}
