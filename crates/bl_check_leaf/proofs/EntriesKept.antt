-- Where the links of the entries rise, what is kept of a link is what the one entry of the link says.
use Rattle.std.proofs.Common.{◌≡◌, ℕ, zero, suc, ◌<◌, refl, sym, ◌∙◌, ap, subst, arith, Bool, true, false, List, []}
use Rattle.std.proofs.Common.{◌∷◌, length, true≢false}
use Rattle.std.specs.Prelude.{ℤ, Option, Some, None, slice_index_or, if◌then◌else◌, ◌↔◌}
use Rattle.std.specs.Cmp.Lexicographic.{pointwise}
use Rattle.std.specs.Cmp.Rules.{signed_items}
use Rattle.std.specs.Option.{option_or}
use Rattle.std.specs.Ordering.{int_eq}
use Rattle.bl_terms.specs.Responses.{Entry, Best, NoResponse}
use Rattle.bl_cert_terms.specs.Certificates.{ProvedEntry, AreRising, Says, SaysBest}
use Rattle.bl_cert_terms.proofs.CertificateLemmas.{one_entry_for_link}
use Rattle.bl_check_terms.specs.Rules.{cutoff_of_entry}
use Rattle.bl_check_state.specs.Saying.{answer_of}

-- an entry says this of the link, up to the response
abbrev Tells : List ProvedEntry → List ℤ → Option ℤ → Type 0
Tells entries l o = (x : Entry) × (Says entries l x × (cutoff_of_entry x ≡ o))

-- ---- what is kept is said

later : (e : ProvedEntry) (entries : List ProvedEntry) (l : List ℤ) (o : Option ℤ) → Tells entries l o
    → Tells (e ∷ entries) l o
later e entries l o (x, ((k, f, b, is, same), says)) = (x, ((suc k, f, omega arith, is, same), says))

here_or_later : (e : ProvedEntry) (entries : List ProvedEntry) (l : List ℤ) (o : Option ℤ)
    (rest : Option (Option ℤ)) (b : Bool) → pointwise int_eq l e.link ≡ b → (rest ≡ Some o → Tells entries l o)
    → option_or rest (if b then Some (cutoff_of_entry e.entry) else None) ≡ Some o → Tells (e ∷ entries) l o
here_or_later e entries l o (Some kept) b is more h = later e entries l o (more h)
here_or_later e entries l o None true is more h =
    (e.entry, ((0, e, omega arith, refl, (sym ((signed_items l e.link).0 is), refl)), cc))
here_or_later e entries l o None false is more h = cc

kept_is_said : (entries : List ProvedEntry) (l : List ℤ) (o : Option ℤ) → answer_of l entries ≡ Some o
    → Tells entries l o
kept_is_said [] l o h = cc
kept_is_said (e ∷ entries) l o h =
    here_or_later e entries l o (answer_of l entries) (pointwise int_eq l e.link) refl (kept_is_said entries l o) h

-- ---- what is said is kept

-- something is kept of the link
abbrev IsKept : List ProvedEntry → List ℤ → Type 0
IsKept entries l = (o : Option ℤ) × (answer_of l entries ≡ Some o)

some_of : (rest : Option (Option ℤ)) (b : Bool) (y : Option ℤ) → b ≡ true
    → (o : Option ℤ) × (option_or rest (if b then Some y else None) ≡ Some o)
some_of (Some z) b y e = (z, refl)
some_of None true y e = (y, refl)
some_of None false y e = absurd (true≢false (sym e))

kept_before : (rest last : Option (Option ℤ)) → (o : Option ℤ) × (rest ≡ Some o)
    → (o : Option ℤ) × (option_or rest last ≡ Some o)
kept_before (Some z) last kept = (z, refl)
kept_before None last kept = cc kept.1

kept_at : (entries : List ProvedEntry) (l : List ℤ) (k : ℕ) (d : ProvedEntry) → k < length entries
    → l ≡ (slice_index_or entries k d).link → IsKept entries l
kept_at [] l k d b link = absurd (omega arith)
kept_at (e ∷ entries) l zero d b link =
    some_of (answer_of l entries) (pointwise int_eq l e.link) (cutoff_of_entry e.entry) ((signed_items l e.link).1 link)
kept_at (e ∷ entries) l (suc k) d b link =
    kept_before (answer_of l entries) (if pointwise int_eq l e.link then Some (cutoff_of_entry e.entry) else None)
    (kept_at entries l k d (omega arith) link)

said_is_kept : (entries : List ProvedEntry) (l : List ℤ) (x : Entry) → Says entries l x → IsKept entries l
said_is_kept entries l x (k, e, b, is, (link, says)) =
    kept_at entries l k e b (sym (ap (λ (f : ProvedEntry). f.link) is ∙ link))

-- ---- one entry for a link

kept_answer : (entries : List ProvedEntry) (l : List ℤ) (x : Entry) → AreRising entries → Says entries l x
    → answer_of l entries ≡ Some (cutoff_of_entry x)
kept_answer entries l x rising says =
    let kept = said_is_kept entries l x says in
    let told = kept_is_said entries l kept.0 kept.1 in
    let same : told.0 ≡ x = one_entry_for_link entries l told.0 x rising told.1.0 says in
    kept.1 ∙ ap Some (sym told.1.1 ∙ ap cutoff_of_entry same)

best_of : (entries : List ProvedEntry) (l : List ℤ) (v : ℤ) (x : Entry) → Says entries l x
    → cutoff_of_entry x ≡ Some v → SaysBest entries l v
best_of entries l v (Best y u) says e = (y, subst (λ (w : ℤ). Says entries l (Best y w)) (cc) says)
best_of entries l v NoResponse says e = cc

none_of : (entries : List ProvedEntry) (l : List ℤ) (x : Entry) → Says entries l x → cutoff_of_entry x ≡ None
    → Says entries l NoResponse
none_of entries l (Best y u) says e = cc
none_of entries l NoResponse says e = says

-- a cost is kept exactly where an entry says that the best response has it
pub best_is_kept : (entries : List ProvedEntry) (l : List ℤ) (v : ℤ) → AreRising entries
    → (answer_of l entries ≡ Some (Some v)) ↔ SaysBest entries l v
best_is_kept entries l v rising = (
  λ h. let told = kept_is_said entries l (Some v) h in best_of entries l v told.0 told.1.0 told.1.1,
  λ h. kept_answer entries l (Best h.0 v) rising h.1,
)

-- that there is none is kept exactly where an entry says that there is no response
pub none_is_kept : (entries : List ProvedEntry) (l : List ℤ) → AreRising entries
    → (answer_of l entries ≡ Some None) ↔ Says entries l NoResponse
none_is_kept entries l rising = (
  λ h. let told = kept_is_said entries l None h in none_of entries l told.0 told.1.0 told.1.1,
  λ h. kept_answer entries l NoResponse rising h,
)
