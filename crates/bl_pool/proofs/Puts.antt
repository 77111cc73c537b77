-- What a put changes, and any puts.
use Rattle.std.proofs.Common.{◌≡◌, ◌≢◌, List, [], ◌∷◌, ◌++◌, ℤ, Option, Some, None, Result, Ok, Err, refl, sym, ap, ◌∙◌}
use Rattle.std.proofs.Common.{All, cond, Bool}
use Rattle.std.specs.Cmp.Lexicographic.{pointwise}
use Rattle.std.specs.Option.{MatchOption, option_or}
use Rattle.std.specs.Ordering.{int_eq}
use Rattle.std.proofs.lemmas.List.{append-nil, append_assoc}
use Rattle.std.proofs.lemmas.List.Folds.{find-append}
use Rattle.bl_fproof.specs.Entries.{Admitted}
use Rattle.bl_pool.specs.declared.fail.PutFail.{PutFail}
use Rattle.bl_pool.specs.declared.fail.PutFail.TheVariants.{OtherModel, NotKept, Memory}
use Rattle.bl_pool.specs.Pools.{EntryPool, entry_of_link}
use Rattle.bl_pool.specs.Puts.{IsPut, IsAdded, IsThere}
use Rattle.bl_pool.specs.Laws.{Put, ArePuts, kept_of}
use Rattle.bl_pool.proofs.Finds.{its_own, none-of, repeated}

-- what the pool has of a link before more entries
abbrev before : List ℤ → List Admitted → EntryPool → Option Admitted
before l rest pool = entry_of_link l (pool.entries ++ rest)

kept-next : (old next : EntryPool) (e kept : Admitted) (rest : List Admitted) (l : List ℤ) (there : Option Admitted)
    → entry_of_link e.link old.entries ≡ there
    → MatchOption there (IsAdded old e kept next) (λ f. IsThere old f kept next)
    → before l rest next ≡ before l (e ∷ rest) old
kept-next old next e kept rest l None none is =
    ap (before l rest) is.after ∙ ap (entry_of_link l) (append_assoc old.entries (e ∷ []) rest)
kept-next old next e kept rest l (Some f) there is =
    ap (before l rest) is.after ∙ repeated old.entries e rest l f there

put-next : (old next : EntryPool) (e : Admitted) (answer : Result Admitted PutFail) (puts : List Put) (l : List ℤ)
    → IsPut old e answer next
    → before l (kept_of puts) next ≡ before l (kept_of (record { entry = e; answer = answer } ∷ puts)) old
put-next old next e (Ok kept) puts l is =
    kept-next old next e kept (kept_of puts) l (entry_of_link e.link old.entries) refl is.answer
put-next old next e (Err (OtherModel back)) puts l is = ap (before l (kept_of puts)) is.after
put-next old next e (Err (NotKept back)) puts l is = ap (before l (kept_of puts)) is.after
put-next old next e (Err Memory) puts l is = ap (before l (kept_of puts)) is.after

pub first : (old new : EntryPool) (puts : List Put) (l : List ℤ) → ArePuts old puts new
    → entry_of_link l new.entries ≡ entry_of_link l (old.entries ++ kept_of puts)
first old new [] l same =
    ap (λ (pool : EntryPool). entry_of_link l pool.entries) same ∙ ap (entry_of_link l) (sym (append-nil old.entries))
first old new (put ∷ puts) l are =
    first are.0 new puts l are.2 ∙ put-next old are.0 put.entry put.answer puts l are.1

joined : (l : List ℤ) (entries more : List Admitted)
    → entry_of_link l (entries ++ more) ≡ option_or (entry_of_link l entries) (entry_of_link l more)
joined l entries more = find-append (λ e. pointwise int_eq l e.link) entries more

pub stays : (old new : EntryPool) (puts : List Put) (l : List ℤ) (e : Admitted) → ArePuts old puts new
    → entry_of_link l old.entries ≡ Some e → entry_of_link l new.entries ≡ Some e
stays old new puts l e are there =
    first old new puts l are ∙ joined l old.entries (kept_of puts)
    ∙ ap (λ (found : Option Admitted). option_or found (entry_of_link l (kept_of puts))) there

or-none : (found : Option Admitted) → option_or found None ≡ found
or-none None = refl
or-none (Some e) = refl

pub others : (old new : EntryPool) (puts : List Put) (l : List ℤ) → ArePuts old puts new
    → All (λ e. e.link ≢ l) (kept_of puts) → entry_of_link l new.entries ≡ entry_of_link l old.entries
others old new puts l are none =
    first old new puts l are ∙ joined l old.entries (kept_of puts)
    ∙ ap (option_or (entry_of_link l old.entries)) (none-of l (kept_of puts) none)
    ∙ or-none (entry_of_link l old.entries)

answered : (old new : EntryPool) (e kept : Admitted) (there : Option Admitted)
    → entry_of_link e.link old.entries ≡ there
    → MatchOption there (IsAdded old e kept new) (λ f. IsThere old f kept new)
    → entry_of_link e.link new.entries ≡ Some kept
answered old new e kept None none is =
    ap (λ (pool : EntryPool). entry_of_link e.link pool.entries) is.after ∙ joined e.link old.entries (e ∷ [])
    ∙ ap (λ (found : Option Admitted). option_or found (entry_of_link e.link (e ∷ []))) none
    ∙ ap (λ (b : Bool). cond b (Some e) None) (its_own e.link) ∙ ap Some (sym is.entry)
answered old new e kept (Some f) there is =
    ap (λ (pool : EntryPool). entry_of_link e.link pool.entries) is.after ∙ there ∙ ap Some (sym is.entry)

pub answer : (old new : EntryPool) (e kept : Admitted) → IsPut old e (Ok kept) new
    → entry_of_link e.link new.entries ≡ Some kept
answer old new e kept is = answered old new e kept (entry_of_link e.link old.entries) refl is.answer
