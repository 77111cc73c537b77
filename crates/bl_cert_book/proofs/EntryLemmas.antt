-- The entries of a book's certificate are proved, rise, and say what is used of them.
use Rattle.std.proofs.Common.{◌≡◌, zero, suc, refl, sym, ◌∙◌, ap, subst, arith, List, [], ◌∷◌}
use Rattle.std.specs.Prelude.{ℤ, All, Any, slice_index_or}
use Rattle.std.specs.Ordering.{int_cmp, match_ordering, ordering_reverse}
use Rattle.std.specs.Cmp.Lexicographic.{slice_cmp}
use Rattle.std.specs.FinMap.{slice_cmp-IsAntisymmetric, int_cmp-IsAntisymmetric}
use Rattle.std.specs.declared.cmp.Ordering.{Ordering}
use Rattle.std.specs.declared.cmp.Ordering.TheVariants.{Less, Equal, Greater}
use Rattle.std.proofs.lemmas.Cmp.{lists_total, int_cmp_total}
use Rattle.std.proofs.lemmas.Int.{ints}
use Rattle.std.proofs.lemmas.List.Elements.{All-cons, All-head, All-tail, All-nil}
use Rattle.std.proofs.lemmas.List.Kept.{AllPairs-cons}
use Rattle.bl_terms.specs.Programs.{Program}
use Rattle.bl_terms.specs.Responses.{Entry, Best, NoResponse, IsTrueEntry}
use Rattle.bl_terms.proofs.FollowerProofLemmas.{follower_proof_law}
use Rattle.bl_model.specs.View.{IsModel}
use Rattle.bl_fproof.specs.Entries.{Admitted, IsAdmitted}
use Rattle.bl_fproof.specs.Steps.{entry_of}
use Rattle.bl_leaf_terms.specs.Incumbents.{IsEntryFor}
use Rattle.bl_leaf_terms.proofs.LeafLemmas.{true_entry}
use Rattle.bl_cert_terms.specs.Certificates.{ProvedEntry, IsProvedEntry, ComesBefore, AreRising, Says, SaysBest}
use Rattle.bl_cert_book.specs.Entries.{proved_entry, with_entry, with_entries}

-- ---- the order of links

abbrev order : List ℤ → List ℤ → Ordering
order = slice_cmp int_cmp

after_is_before : (l m : List ℤ) → order l m ≡ Greater → ComesBefore m l
after_is_before l m e = (lists_total int_cmp_total).antisymm m l ∙ ap ordering_reverse e

-- ---- what holds of some entry

here : (P : ProvedEntry → Type 0) (e : ProvedEntry) (entries : List ProvedEntry) → P e → Any P (e ∷ entries)
here P e entries h = (0, e, omega arith, refl, h)

there : (P : ProvedEntry → Type 0) (e : ProvedEntry) (entries : List ProvedEntry) → Any P entries → Any P (e ∷ entries)
there P e entries (k, x, b, is, h) = (suc k, x, omega arith, is, h)

any_cases : (P : ProvedEntry → Type 0) (e : ProvedEntry) (entries : List ProvedEntry) (Q : Type 0) → (P e → Q)
    → (Any P entries → Q) → Any P (e ∷ entries) → Q
any_cases P e entries Q first later (zero, x, b, is, h) = first (subst P (sym is) h)
any_cases P e entries Q first later (suc k, x, b, is, h) = later (k, x, omega arith, is, h)

-- ---- one more entry

-- what holds of each entry and of the new one holds of each
all_with : (P : ProvedEntry → Type 0) (entries : List ProvedEntry) (e : ProvedEntry) → All P entries → P e
    → All P (with_entry entries e)
all_with P [] e each new = All-cons P e [] new each
all_with P (x ∷ entries) e each new =
    by (order e.link x.link) (all_with P entries e (All-tail P x entries each) new)
  where
    by : (o : Ordering) → All P (with_entry entries e)
        → All P (match_ordering o (e ∷ x ∷ entries) (x ∷ entries) (x ∷ with_entry entries e))
    by Less rest = All-cons P e (x ∷ entries) new each
    by Equal rest = each
    by Greater rest = All-cons P x (with_entry entries e) (All-head P x entries each) rest

-- the first of rising entries comes before the others, which rise
head_before : (x : ProvedEntry) (entries : List ProvedEntry) → AreRising (x ∷ entries)
    → All (λ e. ComesBefore x.link e.link) entries
head_before x entries rising = λ k d b. rising 0 (suc k) d (omega arith) (omega arith)

rising_rest : (x : ProvedEntry) (entries : List ProvedEntry) → AreRising (x ∷ entries) → AreRising entries
rising_rest x entries rising = λ i j d b b'. rising (suc i) (suc j) d (omega arith) (omega arith)

rising_cons : (x : ProvedEntry) (entries : List ProvedEntry) → All (λ e. ComesBefore x.link e.link) entries
    → AreRising entries → AreRising (x ∷ entries)
rising_cons x entries before rising = AllPairs-cons (λ e f. ComesBefore e.link f.link) x entries before rising

rising_with : (entries : List ProvedEntry) (e : ProvedEntry) → AreRising entries → AreRising (with_entry entries e)
rising_with [] e rising = rising_cons e [] (All-nil (λ f. ComesBefore e.link f.link)) rising
rising_with (x ∷ entries) e rising =
    by (order e.link x.link) refl (rising_with entries e (rising_rest x entries rising))
  where
    before : All (λ f. ComesBefore x.link f.link) entries
    before = head_before x entries rising

    by : (o : Ordering) → order e.link x.link ≡ o → AreRising (with_entry entries e)
        → AreRising (match_ordering o (e ∷ x ∷ entries) (x ∷ entries) (x ∷ with_entry entries e))
    by Less is rest =
        rising_cons e (x ∷ entries)
        (All-cons (λ f. ComesBefore e.link f.link) x entries is
        (λ k d b. (lists_total int_cmp_total).trans e.link x.link (slice_index_or entries k d).link is (before k d b)))
        rising
    by Equal is rest = rising
    by Greater is rest =
        rising_cons x (with_entry entries e)
        (all_with (λ f. ComesBefore x.link f.link) entries e before (after_is_before e.link x.link is)) rest

-- an entry that was there is there
any_with : (P : ProvedEntry → Type 0) (entries : List ProvedEntry) (e : ProvedEntry) → Any P entries
    → Any P (with_entry entries e)
any_with P [] e (k, x, b, is, h) = absurd (omega arith)
any_with P (x ∷ entries) e some = by (order e.link x.link) (any_with P entries e)
  where
    by : (o : Ordering) → (Any P entries → Any P (with_entry entries e))
        → Any P (match_ordering o (e ∷ x ∷ entries) (x ∷ entries) (x ∷ with_entry entries e))
    by Less rest = there P e (x ∷ entries) some
    by Equal rest = some
    by Greater rest =
        any_cases P x entries (Any P (x ∷ with_entry entries e)) (here P x (with_entry entries e))
        (λ later. there P x (with_entry entries e) (rest later)) some

-- and one of the new link
link_with : (entries : List ProvedEntry) (e : ProvedEntry) → Any (λ x. x.link ≡ e.link) (with_entry entries e)
link_with [] e = here (λ x. x.link ≡ e.link) e [] refl
link_with (x ∷ entries) e = by (order e.link x.link) refl (link_with entries e)
  where
    by : (o : Ordering) → order e.link x.link ≡ o → Any (λ y. y.link ≡ e.link) (with_entry entries e)
        → Any (λ y. y.link ≡ e.link)
        (match_ordering o (e ∷ x ∷ entries) (x ∷ entries) (x ∷ with_entry entries e))
    by Less is rest = here (λ y. y.link ≡ e.link) e (x ∷ entries) refl
    by Equal is rest =
        here (λ y. y.link ≡ e.link) x entries
        (sym (slice_cmp-IsAntisymmetric int_cmp-IsAntisymmetric e.link x.link is))
    by Greater is rest = there (λ y. y.link ≡ e.link) x (with_entry entries e) rest

-- ---- all entries

-- an admitted answer of the program is a proved entry
abbrev pub IsAnswerOf : Program → Admitted → Type 0
IsAnswerOf p e = IsAdmitted e × (e.program ≡ p)

pub proved_of : (p : Program) (e : Admitted) → IsAdmitted e → e.program ≡ p → IsProvedEntry p (proved_entry e)
proved_of p e admitted same =
    subst (λ (q : Program). IsProvedEntry q (proved_entry e)) same
    (record { link = admitted.link; proof = admitted.shown })

pub all_entries : (p : Program) (entries : List ProvedEntry) (more : List Admitted) → All (IsProvedEntry p) entries
    → All (IsAnswerOf p) more → All (IsProvedEntry p) (with_entries entries more)
all_entries p entries [] each are = each
all_entries p entries (e ∷ more) each are =
    let first = All-head (IsAnswerOf p) e more are in
    all_entries p (with_entry entries (proved_entry e)) more
    (all_with (IsProvedEntry p) entries (proved_entry e) each (proved_of p e first.0 first.1))
    (All-tail (IsAnswerOf p) e more are)

pub rising_entries : (entries : List ProvedEntry) (more : List Admitted) → AreRising entries
    → AreRising (with_entries entries more)
rising_entries entries [] rising = rising
rising_entries entries (e ∷ more) rising =
    rising_entries (with_entry entries (proved_entry e)) more (rising_with entries (proved_entry e) rising)

any_entries : (P : ProvedEntry → Type 0) (entries : List ProvedEntry) (more : List Admitted) → Any P entries
    → Any P (with_entries entries more)
any_entries P entries [] some = some
any_entries P entries (e ∷ more) some =
    any_entries P (with_entry entries (proved_entry e)) more (any_with P entries (proved_entry e) some)

-- the entries have the link of each answer that was added
abbrev pub HasLink : List ProvedEntry → Admitted → Type 0
HasLink entries e = Any (λ x. x.link ≡ e.link) entries

pub links_there : (entries : List ProvedEntry) (more : List Admitted) → All (HasLink (with_entries entries more)) more
links_there entries [] = All-nil (HasLink entries)
links_there entries (e ∷ more) =
    All-cons (HasLink (with_entries entries (e ∷ more))) e more
    (any_entries (λ x. x.link ≡ e.link) (with_entry entries (proved_entry e)) more (link_with entries (proved_entry e)))
    (links_there (with_entry entries (proved_entry e)) more)

-- ---- what the entries say

-- two true entries of a link say the same, but for the response
abbrev SaysLike : Entry → Entry → Type 0
SaysLike (Best y v) x = (y' : List ℤ) × (x ≡ Best y' v)
SaysLike NoResponse x = x ≡ NoResponse

true_alike : (p : Program) (l : List ℤ) (x y : Entry) → IsTrueEntry p l x → IsTrueEntry p l y → SaysLike x y
true_alike p l (Best y v) (Best y' v') f g =
    let least = f.least y' g.response in
    let least' = g.least y f.response in
    let value = f.value in
    let value' = g.value in
    let same : v' ≡ v = omega (arith, ints) in
    (y', ap (Best y') same)
true_alike p l (Best y v) NoResponse f g = absurd (g y f.response)
true_alike p l NoResponse (Best y v) f g = absurd (f y g.response)
true_alike p l NoResponse NoResponse f g = refl

-- where a list of proved entries has the link of an answer, it says what the answer says
said_like : (p : Program) (entries : List ProvedEntry) (l : List ℤ) (e : Admitted) → IsModel p
    → All (IsProvedEntry p) entries → IsEntryFor p l e → HasLink entries e
    → Any (λ x. (x.link ≡ l) × SaysLike (entry_of e.answered) x.entry) entries
said_like p entries l e m proved for (k, x, b, is, link) =
    let at_l : x.link ≡ l = link ∙ for.link in
    let shown : IsProvedEntry p x = subst (IsProvedEntry p) is (proved k x b) in
    let holds : IsTrueEntry p l x.entry =
    subst (λ (i : List ℤ). IsTrueEntry p i x.entry) at_l
    (follower_proof_law p x.link x.entry x.proof m.sound shown.proof) in
    (k, x, b, is, (at_l, true_alike p l (entry_of e.answered) x.entry (true_entry p l e for) holds))

pub says_best : (p : Program) (entries : List ProvedEntry) (l : List ℤ) (e : Admitted) (y : List ℤ) (v : ℤ) → IsModel p
    → All (IsProvedEntry p) entries → IsEntryFor p l e → HasLink entries e → entry_of e.answered ≡ Best y v
    → SaysBest entries l v
says_best p entries l e y v m proved for has answer =
    by (said_like p entries l e m proved for has)
  where
    by : Any (λ x. (x.link ≡ l) × SaysLike (entry_of e.answered) x.entry) entries → SaysBest entries l v
    by (k, x, b, is, (link, like)) =
        let best : SaysLike (Best y v) x.entry = subst (λ (a : Entry). SaysLike a x.entry) answer like in
        (best.0, (k, x, b, is, (link, best.1)))

pub says_none : (p : Program) (entries : List ProvedEntry) (l : List ℤ) (e : Admitted) → IsModel p
    → All (IsProvedEntry p) entries → IsEntryFor p l e → HasLink entries e → entry_of e.answered ≡ NoResponse
    → Says entries l NoResponse
says_none p entries l e m proved for has answer =
    by (said_like p entries l e m proved for has)
  where
    by : Any (λ x. (x.link ≡ l) × SaysLike (entry_of e.answered) x.entry) entries → Says entries l NoResponse
    by (k, x, b, is, (link, like)) =
        let none : SaysLike NoResponse x.entry = subst (λ (a : Entry). SaysLike a x.entry) answer like in
        (k, x, b, is, (link, none))
