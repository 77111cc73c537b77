-- What entries say of links, where one more entry is said or the last one changes.
use Rattle.std.proofs.Common.{◌≡◌, ℕ, zero, suc, ◌<◌, Bool, true, false, List, [], ◌∷◌, ◌++◌, length, Option, None}
use Rattle.std.proofs.Common.{Some, refl, sym, ap, subst, ◌∙◌, arith}
use Rattle.std.specs.Prelude.{ℤ, All, slice_index_or, if◌then◌else◌}
use Rattle.std.specs.Cmp.Lexicographic.{pointwise}
use Rattle.std.specs.Option.{option_or}
use Rattle.std.specs.Ordering.{int_eq}
use Rattle.std.proofs.lemmas.List.Quantifiers.{all_pairs_push}
use Rattle.bl_terms.specs.Programs.{Program}
use Rattle.bl_terms.specs.Responses.{Entry}
use Rattle.bl_terms.specs.Trees.{BareNode}
use Rattle.bl_terms.specs.Bounds.{Multipliers}
use Rattle.bl_cert_terms.specs.Certificates.{ProvedEntry, ComesBefore, AreRising}
use Rattle.bl_fproof.specs.Entries.{whole_problem}
use Rattle.bl_check_rules.specs.declared.answers.Answers.{Answers}
use Rattle.bl_check_terms.specs.Reading.{at_last, before_last, last_entry, with_answer, with_node}
use Rattle.bl_check_terms.specs.Rules.{cutoff_of_entry}
use Rattle.bl_check_terms.proofs.Lasts.{EndsIn, changed_last, last_entry-push}
use Rattle.bl_check_terms.proofs.Standing.{IsOpen}
use Rattle.bl_check_state.specs.Saying.{AreSaid, answer_of}
use Rattle.bl_check.specs.declared.entry.OpenEntry.{OpenEntry}
use Rattle.bl_check.specs.Keeping.{IsAtHand, IsNoted, IsOpenAs}

-- ---- answers

-- what the entry says of a link that has been told this of before
abbrev told_by : List ℤ → ProvedEntry → Option (Option ℤ) → Option (Option ℤ)
told_by link e before = if pointwise int_eq link e.link then Some (cutoff_of_entry e.entry) else before

or_first : (b : Bool) (x : Option ℤ) (o r : Option (Option ℤ))
    → option_or (if b then Some x else o) r ≡ (if b then Some x else option_or o r)
or_first true x o r = refl
or_first false x o r = refl

-- the last entry of a link counts
answer_push : (link : List ℤ) (entries : List ProvedEntry) (e : ProvedEntry)
    → answer_of link (entries ++ e ∷ []) ≡ told_by link e (answer_of link entries)
answer_push link [] e = refl
answer_push link (x ∷ entries) e =
    let first : Option (Option ℤ) =
    if pointwise int_eq link x.link then Some (cutoff_of_entry x.entry) else None in
    ap (λ (o : Option (Option ℤ)). option_or o first) (answer_push link entries e)
    ∙ or_first (pointwise int_eq link e.link) (cutoff_of_entry e.entry) (answer_of link entries) first

-- one more entry is noted
pub said_push : (old new : Answers) (entries : List ProvedEntry) (e : ProvedEntry) → AreSaid old entries
    → IsNoted old new e.link (cutoff_of_entry e.entry) → AreSaid new (entries ++ e ∷ [])
said_push old new entries e said noted = λ link.
    noted link ∙ ap (λ (o : Option (Option ℤ)). told_by link e o) (said link) ∙ sym (answer_push link entries e)

twice : (b : Bool) (x y o : Option (Option ℤ)) → (if b then x else (if b then y else o)) ≡ (if b then x else o)
twice true x y o = refl
twice false x y o = refl

-- what the last entry says is noted
pub said_last : (old new : Answers) (entries : List ProvedEntry) (x : Entry) → EndsIn last_entry entries
    → AreSaid old entries → IsNoted old new (last_entry entries).link (cutoff_of_entry x)
    → AreSaid new (at_last (with_answer x) entries)
said_last old new entries x ends said noted = λ link.
    let e = last_entry entries in
    let before = before_last entries in
    let f = with_answer x in
    let l = changed_last last_entry last_entry-push f entries ends in
    let whole : at_last f entries ≡ before ++ f e ∷ [] =
    l.ends.whole ∙ ap (λ (es : List ProvedEntry). es ++ last_entry (at_last f entries) ∷ []) l.before
    ∙ ap (λ (d : ProvedEntry). before ++ d ∷ []) l.same in
    let was : answer_of link entries ≡ told_by link e (answer_of link before) =
    ap (answer_of link) ends.whole ∙ answer_push link before e in
    noted link ∙ ap (λ (o : Option (Option ℤ)). told_by link (f e) o) (said link)
    ∙ ap (λ (o : Option (Option ℤ)). told_by link (f e) o) was
    ∙ twice (pointwise int_eq link e.link) (Some (cutoff_of_entry x)) (Some (cutoff_of_entry e.entry))
    (answer_of link before)
    ∙ sym (answer_push link before (f e)) ∙ ap (answer_of link) (sym whole)

-- a node of its proof says nothing of a link
answer_node : (link : List ℤ) (n : BareNode Multipliers) (entries : List ProvedEntry)
    → answer_of link (at_last (with_node n) entries) ≡ answer_of link entries
answer_node link n [] = refl
answer_node link n (x ∷ []) = refl
answer_node link n (x ∷ y ∷ entries) =
    let first : Option (Option ℤ) =
    if pointwise int_eq link x.link then Some (cutoff_of_entry x.entry) else None in
    ap (λ (o : Option (Option ℤ)). option_or o first) (answer_node link n (y ∷ entries))

pub said_node : (kept : Answers) (n : BareNode Multipliers) (entries : List ProvedEntry) → AreSaid kept entries
    → AreSaid kept (at_last (with_node n) entries)
said_node kept n entries said = λ link. said link ∙ sym (answer_node link n entries)

-- ---- links that rise

link_at : (f : ProvedEntry → ProvedEntry) → ((e : ProvedEntry) → (f e).link ≡ e.link) → (entries : List ProvedEntry)
    (k : ℕ) (d : ProvedEntry) → k < length entries
    → (slice_index_or (at_last f entries) k d).link ≡ (slice_index_or entries k d).link
link_at f keeps [] k d b = absurd (omega arith)
link_at f keeps (x ∷ []) zero d b = keeps x
link_at f keeps (x ∷ []) (suc k) d b = absurd (omega arith)
link_at f keeps (x ∷ y ∷ entries) zero d b = refl
link_at f keeps (x ∷ y ∷ entries) (suc k) d b = link_at f keeps (y ∷ entries) k d (omega arith)

pub length-at_last : {A : Type 0} (f : A → A) (xs : List A) → length (at_last f xs) ≡ length xs
length-at_last f [] = refl
length-at_last f (x ∷ []) = refl
length-at_last f (x ∷ y ∷ xs) = ap suc (length-at_last f (y ∷ xs))

-- where the last entry keeps its link, the links still rise
pub rising_same : (f : ProvedEntry → ProvedEntry) → ((e : ProvedEntry) → (f e).link ≡ e.link)
    → (entries : List ProvedEntry) → AreRising entries → AreRising (at_last f entries)
rising_same f keeps entries rising = λ i j d lt b.
    let size = length-at_last f entries in
    let below : j < length entries = omega arith in
    let first = link_at f keeps entries i d (omega arith) in
    let second = link_at f keeps entries j d below in
    subst (λ (l : List ℤ). ComesBefore l (slice_index_or (at_last f entries) j d).link) (sym first)
    (subst (λ (l : List ℤ). ComesBefore (slice_index_or entries i d).link l) (sym second) (rising i j d lt below))

-- the links rise up to that of the entry that is read
pub open_rises : (p : Program) (entries : List ProvedEntry) (link : List ℤ) → IsOpen p entries link
    → AreRising entries
open_rises p entries link h =
    let above = subst (λ (l : List ℤ). All (λ d. ComesBefore d.link l) (before_last entries)) (sym h.same) h.above in
    subst AreRising (sym h.ends.whole)
    (all_pairs_push (λ x y. ComesBefore x.link y.link) (before_last entries) (last_entry entries) h.rising above)

-- ---- the entry at hand

-- where there is an entry, it is at hand
pub none_at_hand : (p : Program) (held : Option OpenEntry) (entries : List ProvedEntry) → IsAtHand p held entries
    → EndsIn last_entry entries → held ≡ None → ⊥
none_at_hand p held entries hand ends e =
    let none : entries ≡ [] = subst (λ (o : Option OpenEntry). IsAtHand p o entries) e hand in
    some (before_last entries) (last_entry entries) (sym ends.whole ∙ none)
  where
    some : (before : List ProvedEntry) (d : ProvedEntry) → before ++ d ∷ [] ≡ [] → ⊥
    some [] d e = cc
    some (x ∷ before) d e = cc

pub at_hand : (p : Program) (held : Option OpenEntry) (entries : List ProvedEntry) (x : OpenEntry)
    → IsAtHand p held entries → held ≡ Some x → IsOpenAs p x (last_entry entries)
at_hand p held entries x hand e = subst (λ (o : Option OpenEntry). IsAtHand p o entries) e hand

link_last : (n : BareNode Multipliers) (entries : List ProvedEntry)
    → (last_entry (at_last (with_node n) entries)).link ≡ (last_entry entries).link
link_last n [] = refl
link_last n (x ∷ []) = refl
link_last n (x ∷ y ∷ []) = refl
link_last n (x ∷ y ∷ z ∷ entries) = link_last n (y ∷ z ∷ entries)

entry_last : (n : BareNode Multipliers) (entries : List ProvedEntry)
    → (last_entry (at_last (with_node n) entries)).entry ≡ (last_entry entries).entry
entry_last n [] = refl
entry_last n (x ∷ []) = refl
entry_last n (x ∷ y ∷ []) = refl
entry_last n (x ∷ y ∷ z ∷ entries) = entry_last n (y ∷ z ∷ entries)

-- and stays so with a node of its proof
pub node_at_hand : (p : Program) (held : Option OpenEntry) (n : BareNode Multipliers) (entries : List ProvedEntry)
    → IsAtHand p held entries → IsAtHand p held (at_last (with_node n) entries)
node_at_hand p None n entries hand = ap (at_last (with_node n)) hand
node_at_hand p (Some x) n entries hand = record {
  link = hand.link ∙ sym (link_last n entries);
  value = hand.value ∙ sym (ap cutoff_of_entry (entry_last n entries));
  rows = hand.rows ∙ sym (ap (whole_problem p) (link_last n entries));
}
