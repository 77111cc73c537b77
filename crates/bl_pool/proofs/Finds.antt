-- The entry of a link among the entries of a list.
use Rattle.std.proofs.Common.{◌≡◌, ◌≢◌, Bool, true, false, cond, ◌||◌, List, [], ◌∷◌, ◌++◌, ℤ, Option, Some, None, refl}
use Rattle.std.proofs.Common.{sym, ap, ◌∙◌, true≢false, Contains, All, map, arith}
use Rattle.std.specs.Cmp.Lexicographic.{pointwise}
use Rattle.std.specs.Cmp.Rules.{signed_items}
use Rattle.std.specs.List.{find, list_any}
use Rattle.std.specs.Option.{MatchOption, option_or}
use Rattle.std.specs.Ordering.{int_eq}
use Rattle.std.proofs.lemmas.List.Elements.{All-nil, All-cons, All-head, All-tail}
use Rattle.std.proofs.lemmas.List.Elements.{Contains-get_or, Contains-append_right}
use Rattle.std.proofs.lemmas.List.Folds.{find-append}
use Rattle.bl_fproof.specs.Entries.{Admitted}
use Rattle.bl_pool.specs.Pools.{entry_of_link}

pub other_link : (l m : List ℤ) → m ≢ l → pointwise int_eq l m ≡ false
other_link l m other = by (pointwise int_eq l m) refl
  where
    by : (b : Bool) → pointwise int_eq l m ≡ b → pointwise int_eq l m ≡ false
    by true e = absurd (other (sym ((signed_items l m).0 e)))
    by false e = e

none-any : {X : Type 0} (b : Bool) (x : X) (found : Option X) (any : Bool) → (found ≡ None → any ≡ false)
    → cond b (Some x) found ≡ None → (b || any) ≡ false
none-any true x found any more e = absurd cc
none-any false x found any more e = more e

-- where none is found, none passes
pub find-none : {X Y : Type 0} (p : Y → Bool) (f : X → Y) (xs : List X) → find (λ x. p (f x)) xs ≡ None
    → list_any p (map f xs) ≡ false
find-none p f [] e = refl
find-none p f (x ∷ xs) e =
    none-any (p (f x)) x (find (λ x. p (f x)) xs) (list_any p (map f xs)) (find-none p f xs) e

abbrev pub IsFound : List ℤ → List Admitted → Option Admitted → Type 0
IsFound l entries found = MatchOption found (All (λ e. e.link ≢ l) entries) (λ e. Contains entries e × (e.link ≡ l))

found-further : (l : List ℤ) (e : Admitted) (entries : List Admitted) → (e.link ≢ l) → (found : Option Admitted)
    → IsFound l entries found → IsFound l (e ∷ entries) found
found-further l e entries other None none = All-cons (λ e. e.link ≢ l) e entries other none
found-further l e entries other (Some f) is = (Contains-append_right (e ∷ []) entries f is.0, is.1)

found-next : (l : List ℤ) (e : Admitted) (entries : List Admitted) (found : Option Admitted) (same : Bool)
    → pointwise int_eq l e.link ≡ same → IsFound l entries found → IsFound l (e ∷ entries) (cond same (Some e) found)
found-next l e entries found true at is =
    (Contains-get_or (e ∷ entries) 0 e (omega arith), sym ((signed_items l e.link).0 at))
found-next l e entries found false at is =
    let other : e.link ≢ l = λ same. true≢false (sym ((signed_items l e.link).1 (sym same)) ∙ at) in
    found-further l e entries other found is

pub found : (l : List ℤ) (entries : List Admitted) → IsFound l entries (entry_of_link l entries)
found l [] = All-nil (λ e. e.link ≢ l)
found l (e ∷ entries) =
    found-next l e entries (entry_of_link l entries) (pointwise int_eq l e.link) refl (found l entries)

pub none-of : (l : List ℤ) (entries : List Admitted) → All (λ e. e.link ≢ l) entries → entry_of_link l entries ≡ None
none-of l [] none = refl
none-of l (e ∷ entries) none =
    let other = other_link l e.link (All-head (λ e. e.link ≢ l) e entries none) in
    ap (λ (b : Bool). cond b (Some e) (entry_of_link l entries)) other
    ∙ none-of l entries (All-tail (λ e. e.link ≢ l) e entries none)

pub its_own : (l : List ℤ) → pointwise int_eq l l ≡ true
its_own l = (signed_items l l).1 refl

-- one more entry of a link that has one changes nothing
pub repeated : (entries : List Admitted) (e : Admitted) (rest : List Admitted) (l : List ℤ) (first : Admitted)
    → entry_of_link e.link entries ≡ Some first
    → entry_of_link l (entries ++ rest) ≡ entry_of_link l (entries ++ e ∷ rest)
repeated entries e rest l first there =
    find-append (λ e. pointwise int_eq l e.link) entries rest ∙ by (pointwise int_eq l e.link) refl
    ∙ sym (find-append (λ e. pointwise int_eq l e.link) entries (e ∷ rest))
  where
    by : (same : Bool) → pointwise int_eq l e.link ≡ same → option_or (entry_of_link l entries) (entry_of_link l rest)
        ≡ option_or (entry_of_link l entries) (cond (pointwise int_eq l e.link) (Some e) (entry_of_link l rest))
    by true at =
        let here : entry_of_link l entries ≡ Some first =
        ap (λ (k : List ℤ). entry_of_link k entries) ((signed_items l e.link).0 at) ∙ there in
        rw here refl
    by false at = rw at refl
