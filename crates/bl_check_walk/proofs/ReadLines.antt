-- The lines that are read, one after another.
use Rattle.std.proofs.Common.{◌≡◌, ℕ, ◌+◌, ◌-◌, ◌<◌, List, [], ◌∷◌, ◌++◌, length, refl, sym, ap, subst, ◌∙◌, arith}
use Rattle.std.proofs.Common.{append_assoc, length-append, reverse, Bool, true, false, zero, suc, Option, None, Some}
use Rattle.std.specs.Prelude.{ℤ, pos, unsigned_abs, if◌then◌else◌, nat_lt}
use Rattle.std.specs.List.{AllByRecursion}
use Rattle.std.specs.Ordering.{int_eq}
use Rattle.std.proofs.lemmas.List.{append-nil, reverse-append}
use Rattle.bl_terms.specs.Points.{Area}
use Rattle.bl_terms.specs.Programs.{Program, root, columns}
use Rattle.bl_terms.specs.Trees.{low_half, high_half}
use Rattle.bl_terms.proofs.PointLemmas.{part_of_itself, part_of_part}
use Rattle.bl_model.specs.View.{IsModel}
use Rattle.bl_model.proofs.BoxLemmas.{low_half-area, low_half-within, high_half-area, high_half-within}
use Rattle.bl_cert_terms.specs.Certificates.{Certificate}
use Rattle.bl_certline.specs.declared.line.CertLine.{CertLine}
use Rattle.bl_certline.specs.declared.line.CertLine.TheVariants as lines
use Rattle.bl_certline.specs.Fields.{Bytes}
use Rattle.bl_certtext.specs.declared.part.Part.{Part}
use Rattle.bl_certtext.specs.declared.part.Part.TheVariants as parts
use Rattle.bl_certtext.specs.Grammar.{Begins, parts_behind, entries_from, cuts_from, units_from, low_of, high_of}
use Rattle.bl_certtext.specs.Places.{SplitsAt}
use Rattle.bl_certtext.specs.Texts.{line_text, start, text_of}
use Rattle.bl_check_terms.specs.declared.rule.CertRule.{CertRule}
use Rattle.bl_check_terms.specs.declared.rule.CertRule.TheVariants as rules
use Rattle.bl_check_terms.specs.Accepting.{FirstRefusal, IsRightLine, IsTextOf, Reads}
use Rattle.bl_check_terms.specs.Reading.{nothing, with_line}
use Rattle.bl_check_walk.specs.Sites.{IsPartOf, IsSound}
use Rattle.bl_check_walk.specs.Walks.{IsAdvance, IsAdvanced, IsAt, IsReached, IsRefusal}
use Rattle.bl_check_walk.proofs.FirstLines.{first_shorter}

-- ---- a line more is read

Reads-more : (p : Program) (from : List Part) (c : Certificate) (ls : List CertLine) (part : Part)
    (expected : List Part) (d : Certificate) (line : CertLine) → Reads p from c ls (part ∷ expected) d
    → IsRightLine p d part line
    → Reads p from c (ls ++ line ∷ []) (parts_behind p part line ++ expected) (with_line p part line d)
Reads-more p [] c [] part expected d line h right = let e = h.0 in absurd (cc)
Reads-more p (first ∷ from) c [] part expected d line h right =
    let e = h.0 in
    let same : first ≡ part = cc in
    let others : from ≡ expected = cc in (
      subst (λ x. IsRightLine p x first line) h.1 (subst (λ q. IsRightLine p d q line) (sym same) right),
      (
        ap (λ (q : Part). parts_behind p q line ++ expected) (sym same)
            ∙ ap (λ (qs : List Part). parts_behind p first line ++ qs) (sym others),
        ap (λ (q : Part). with_line p q line d) (sym same) ∙ ap (λ x. with_line p first line x) h.1,
      ),
    )
Reads-more p [] c (l ∷ ls) part expected d line h right = absurd h
Reads-more p (first ∷ from) c (l ∷ ls) part expected d line h right =
    (h.0, Reads-more p (parts_behind p first l ++ from) (with_line p first l c) ls part expected d line h.1 right)

text-more : (ls : List CertLine) (line : CertLine) (rest : Bytes)
    → text_of ls ++ (line_text line ++ rest) ≡ text_of (ls ++ line ∷ []) ++ rest
text-more [] line rest = ap (λ (t : Bytes). t ++ rest) (sym (append-nil (line_text line)))
text-more (l ∷ ls) line rest =
    append_assoc (line_text l) (text_of ls) (line_text line ++ rest)
    ∙ ap (λ (t : Bytes). line_text l ++ t) (text-more ls line rest)
    ∙ sym (append_assoc (line_text l) (text_of (ls ++ line ∷ [])) rest)

-- ---- the parts' boxes

root-part : (p : Program) → IsModel p → IsPartOf p (root p)
root-part p m = record { area = m.sound.box; within = part_of_itself (root p) }

low-part : (p : Program) (a : Area) (column at : ℤ) → IsPartOf p a → SplitsAt a column at
    → IsPartOf p (low_of a column at)
low-part p a column at is (k, named, can) =
    let here : IsPartOf p (low_half a k at) = record {
      area = low_half-area a k at can is.area;
      within = part_of_part (low_half-within a k at can is.area) is.within;
    } in
    subst (λ (i : ℤ). IsPartOf p (low_half a (unsigned_abs i) at)) (sym named) here

high-part : (p : Program) (a : Area) (column at : ℤ) → IsPartOf p a → SplitsAt a column at
    → IsPartOf p (high_of a column at)
high-part p a column at is (k, named, can) =
    let here : IsPartOf p (high_half a k at) = record {
      area = high_half-area a k at can is.area;
      within = part_of_part (high_half-within a k at can is.area) is.within;
    } in
    subst (λ (i : ℤ). IsPartOf p (high_half a (unsigned_abs i) at)) (sym named) here

entries-sound : (p : Program) (left : ℕ) (last : Option (List ℤ)) → AllByRecursion (IsSound p) (entries_from left last)
entries-sound p zero last = (tt, tt)
entries-sound p (suc left) last = (tt, tt)

units-sound : (p : Program) (left items : ℕ) → AllByRecursion (IsSound p) (units_from left items)
units-sound p zero items = (tt, (tt, tt))
units-sound p (suc left) items = (tt, tt)

cuts-sound : (p : Program) (place count : ℕ) → AllByRecursion (IsSound p) (cuts_from place count)
cuts-sound p place count = by (nat_lt place count)
  where
    by : (b : Bool) → AllByRecursion (IsSound p)
        (if b then parts.Cuts place count ∷ [] else parts.Head count ∷ [])
    by true = (tt, tt)
    by false = (tt, tt)

version-sound : (p : Program) (b : Bool) → AllByRecursion (IsSound p)
    (if b then parts.Statement ∷ [] else parts.Sense ∷ parts.Statement ∷ [])
version-sound p true = (tt, tt)
version-sound p false = (tt, (tt, tt))

-- what is expected behind a line
sound-behind : (p : Program) (part : Part) (line : CertLine) → IsModel p → IsSound p part → Begins p part line
    → AllByRecursion (IsSound p) (parts_behind p part line)
sound-behind p parts.Version (lines.Version number) m is h = version-sound p (int_eq number (pos 1))
sound-behind p parts.Sense (lines.Sense maximise) m is h = tt
sound-behind p parts.Statement (lines.StatesOptimal value) m is h = (tt, (tt, tt))
sound-behind p parts.Statement lines.StatesInfeasible m is h = (tt, tt)
sound-behind p parts.Point (lines.Point values) m is h = tt
sound-behind p parts.EntryCount (lines.Entries count) m is h = entries-sound p (unsigned_abs count) None
sound-behind p (parts.Entries left last) (lines.EntryHead link) m is h = (tt, entries-sound p (left - 1) (Some link))
sound-behind p parts.Answer (lines.Best value response) m is h = (root-part p m, tt)
sound-behind p parts.Answer lines.NoAnswer m is h = (root-part p m, tt)
sound-behind p (parts.FollowerTree a) (lines.Split column place) m is h =
    (low-part p a column place is h.1, (high-part p a column place is h.1, tt))
sound-behind p (parts.FollowerTree a) (lines.Proof den mult) m is h = tt
sound-behind p parts.CutCount (lines.CutCount count) m is h = cuts-sound p 0 (unsigned_abs count)
sound-behind p (parts.Cuts place count) lines.CutHead m is h = (tt, cuts-sound p (place + 1) count)
sound-behind p (parts.CutArea place) (lines.Area sides) m is h = (tt, tt)
sound-behind p (parts.Tight place) (lines.TightList items) m is h = (tt, tt)
sound-behind p (parts.Inverse items) (lines.Inverse den) m is h = units-sound p (columns p) items
sound-behind p (parts.Units left items) (lines.Unit pairs) m is h = units-sound p (left - 1) items
sound-behind p parts.At (lines.At values) m is h = tt
sound-behind p parts.Response (lines.Response values) m is h = tt
sound-behind p (parts.Head cuts) lines.TreeHead m is h = (root-part p m, (tt, tt))
sound-behind p (parts.Tree a cuts) (lines.Split column place) m is h =
    (low-part p a column place is h, (high-part p a column place is h, tt))
sound-behind p (parts.Tree a cuts) (lines.Close den value_row count cited mult) m is h = tt
sound-behind p (parts.Tree a cuts) lines.NoAnswer m is h = tt
sound-behind p parts.End lines.End m is h = tt
sound-behind p part line m is h = absurd h

all-append : (p : Program) (qs rs : List Part) → AllByRecursion (IsSound p) qs → AllByRecursion (IsSound p) rs
    → AllByRecursion (IsSound p) (qs ++ rs)
all-append p [] rs a b = b
all-append p (q ∷ qs) rs a b = (a.0, all-append p qs rs a.1 b)

-- ---- one step

-- the stack with the part on top
popped : (S : Certificate → Type 0) (p : Program) (bytes : Bytes) (number : ℕ) (stack front : List Part) (part : Part)
    (rest : Bytes) → IsReached S p bytes number stack rest → stack ≡ front ++ part ∷ []
    → IsReached S p bytes number (front ++ part ∷ []) rest
popped S p bytes number stack front part rest h e = subst (λ (s : List Part). IsReached S p bytes number s rest) e h

turned : (front : List Part) (part : Part) → reverse (front ++ part ∷ []) ≡ part ∷ reverse front
turned front part = reverse-append front (part ∷ [])

pub top-sound : (S : Certificate → Type 0) (p : Program) (bytes : Bytes) (number : ℕ) (stack front : List Part)
    (part : Part) (rest : Bytes) → IsReached S p bytes number stack rest → stack ≡ front ++ part ∷ [] → IsSound p part
top-sound S p bytes number stack front part rest h e =
    let t = popped S p bytes number stack front part rest h e in
    (subst (AllByRecursion (IsSound p)) (turned front part) t.sound).0

-- the part on top is expected where the certificate was said
at-top : (S : Certificate → Type 0) (p : Program) (bytes : Bytes) (number : ℕ) (front : List Part) (part : Part)
    (rest : Bytes) → (h : IsReached S p bytes number (front ++ part ∷ []) rest)
    → IsAt S p part (reverse front) h.certificate
at-top S p bytes number front part rest h = record {
  read = (
    h.lines,
    subst (λ (qs : List Part). Reads p start nothing h.lines qs h.certificate) (turned front part) h.reads,
  );
  said = h.said;
}

pub known-top : (S : Certificate → Type 0) (p : Program) (bytes : Bytes) (number : ℕ) (stack front : List Part)
    (part : Part) (rest : Bytes) → IsReached S p bytes number stack rest → stack ≡ front ++ part ∷ []
    → (c : Certificate) × IsAt S p part (reverse front) c
known-top S p bytes number stack front part rest h e =
    let t = popped S p bytes number stack front part rest h e in
    (t.certificate, at-top S p bytes number front part rest t)

-- less is left behind a line
pub advance-shorter : (S T : Certificate → Type 0) (p : Program) (c : Certificate) (part : Part) (bytes rest : Bytes)
    (old new : List Part) → IsAt S p part (reverse old) c → IsAdvance S T p part bytes rest old new
    → length rest < length bytes
advance-shorter S T p c part bytes rest old new at adv =
    let a : IsAdvanced T p c part bytes rest old new = adv c at in
    first_shorter bytes a.line rest a.spelled

pub reached-more : (S T : Certificate → Type 0) (p : Program) (bytes : Bytes) (number : ℕ) (stack front : List Part)
    (part : Part) (rest behind : Bytes) (new : List Part) → IsModel p → IsReached S p bytes number stack rest
    → stack ≡ front ++ part ∷ [] → IsAdvance S T p part rest behind front new
    → IsReached T p bytes (number + 1) new behind
reached-more S T p bytes number stack front part rest behind new m whole e adv =
    let h = popped S p bytes number stack front part rest whole e in
    let at = at-top S p bytes number front part rest h in
    let a : IsAdvanced T p h.certificate part rest behind front new = adv h.certificate at in
    let sound = subst (AllByRecursion (IsSound p)) (turned front part) h.sound in
    let reads =
    subst (λ (qs : List Part). Reads p start nothing h.lines qs h.certificate) (turned front part) h.reads in
    let less : length behind < length rest = first_shorter rest a.line behind a.spelled in
    let room = h.room in
    let size : length (h.lines ++ a.line ∷ []) ≡ length h.lines + 1 = length-append h.lines (a.line ∷ []) in
    record {
      lines = h.lines ++ a.line ∷ [];
      certificate = with_line p part a.line h.certificate;
      reads = subst
          (λ (qs : List Part). Reads p start nothing (h.lines ++ a.line ∷ []) qs
          (with_line p part a.line h.certificate))
          (sym a.expected)
          (Reads-more p start nothing h.lines part (reverse front) h.certificate a.line reads a.right);
      spelled = h.spelled ∙ ap (λ (t : Bytes). text_of h.lines ++ t) a.spelled ∙ text-more h.lines a.line behind;
      counted = ap (λ (n : ℕ). n + 1) h.counted ∙ sym size;
      room = omega (arith, less, room);
      said = a.said;
      sound = subst (AllByRecursion (IsSound p)) (sym a.expected)
          (all-append p (parts_behind p part a.line) (reverse front)
          (sound-behind p part a.line m sound.0 a.right.placed.begins) sound.1);
    }

-- nothing was read yet
pub reached-none : (S : Certificate → Type 0) (p : Program) (bytes : Bytes) (stack : List Part) → stack ≡ start
    → S nothing → IsReached S p bytes 0 stack bytes
reached-none S p bytes stack e said =
    let none : IsReached S p bytes 0 start bytes = record {
      lines = [];
      certificate = nothing;
      reads = (refl, refl);
      spelled = refl;
      counted = refl;
      room = omega arith;
      said = said;
      sound = (tt, tt);
    } in
    subst (λ (s : List Part). IsReached S p bytes 0 s bytes) (sym e) none

-- the next line is refused
pub reached-refused : (S : Certificate → Type 0) (p : Program) (bytes : Bytes) (number : ℕ) (stack front : List Part)
    (part : Part) (rest : Bytes) (rule : CertRule) → IsReached S p bytes number stack rest
    → stack ≡ front ++ part ∷ [] → IsRefusal S p part rest front rule → FirstRefusal p bytes (number + 1) rule
reached-refused S p bytes number stack front part rest rule whole e refused =
    let h = popped S p bytes number stack front part rest whole e in
    record {
      before = h.lines;
      rest = rest;
      expected = part ∷ reverse front;
      said = h.certificate;
      reads = subst (λ (qs : List Part). Reads p start nothing h.lines qs h.certificate) (turned front part) h.reads;
      spelled = h.spelled;
      refused = refused h.certificate (at-top S p bytes number front part rest h);
      counted = ap (λ (n : ℕ). n + 1) h.counted;
    }

-- something stands behind the end
pub reached-tail : (S : Certificate → Type 0) (p : Program) (bytes : Bytes) (number : ℕ) (stack : List Part)
    (rest : Bytes) → IsReached S p bytes number stack rest → stack ≡ [] → 0 < length rest
    → FirstRefusal p bytes (number + 1) rules.Tail
reached-tail S p bytes number stack rest whole e some =
    let h = subst (λ (s : List Part). IsReached S p bytes number s rest) e whole in
    record {
      before = h.lines;
      rest = rest;
      expected = [];
      said = h.certificate;
      reads = h.reads;
      spelled = h.spelled;
      refused = (refl, some);
      counted = ap (λ (n : ℕ). n + 1) h.counted;
    }

-- the text is that of a certificate
pub reached-end : (S : Certificate → Type 0) (p : Program) (bytes : Bytes) (number : ℕ) (stack : List Part)
    (rest : Bytes) → IsReached S p bytes number stack rest → stack ≡ [] → rest ≡ []
    → (c : Certificate) × IsTextOf p bytes c × S c
reached-end S p bytes number stack rest whole e none =
    let h = subst (λ (s : List Part). IsReached S p bytes number s rest) e whole in (
      h.certificate,
      record {
        lines = h.lines;
        reads = h.reads;
        spelled = h.spelled ∙ ap (λ (t : Bytes). text_of h.lines ++ t) none ∙ append-nil (text_of h.lines);
      },
      h.said,
    )

-- nothing is left where no byte is
pub none-left : (rest : Bytes) → length rest ≡ 0 → rest ≡ []
none-left [] h = refl
none-left (b ∷ rest) h = absurd (omega arith)
