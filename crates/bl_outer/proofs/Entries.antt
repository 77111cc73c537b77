-- The files of a list of pairs, where the first pair of a name counts.
use Rattle.std.proofs.Common.{◌≡◌, ◌≢◌, ℕ, zero, suc, ◌<◌, List, [], ◌∷◌, ◌++◌, length, get_or, set, take, Bool, true}
use Rattle.std.proofs.Common.{false, cond, refl, sym, ap, subst, ◌∙◌, arith, length-append}
use Rattle.std.specs.Prelude.{None, Some, IsSome}
use Rattle.std.specs.declared.option.Option.{Option}
use Rattle.std.specs.declared.cmp.Ordering.{Ordering}
use Rattle.std.specs.declared.cmp.Ordering.TheVariants.{Less, Equal, Greater}
use Rattle.std.specs.Ordering.{nat_cmp, eq_by_cmp, is_eq}
use Rattle.std.specs.Cmp.Lexicographic.{slice_cmp}
use Rattle.std.proofs.lemmas.Cmp.{nat_list_cmp_total, tied_itself}
use Rattle.std.specs.FinMap.{get, find, insert, same_map, get-from_entries, get-insert, from_entries_push}
use Rattle.std.specs.FinMap.{slice_cmp-IsAntisymmetric, nat_cmp-IsAntisymmetric, IsAntisymmetric}
use Rattle.std.proofs.lemmas.List.{get_or_default, get_or_push, get_or_append_left}
use Rattle.bl_outer.specs.Files.{Files, Holds, IsPresent, IsAbsent, Empties, Appends, AppendsPrefix}
use Rattle.std.specs.Bool.{OnTrue, OnFalse}
use Rattle.bl_outer.specs.Sink.{Adds, AddsPrefix}
use Rattle.bl_outer.specs.MemFile.{Entries, IsFirst, NamesStay, files_of, name_at}

-- the order of names
abbrev order : List ℕ → List ℕ → Ordering
order = slice_cmp nat_cmp

one_name : IsAntisymmetric order
one_name = slice_cmp-IsAntisymmetric nat_cmp-IsAntisymmetric

equal : (r : Ordering) → is_eq r ≡ true → r ≡ Equal
equal Less e = cc
equal Equal e = refl
equal Greater e = cc

tie : (q : List ℕ) → eq_by_cmp order q q ≡ true
tie q = ap is_eq (tied_itself nat_list_cmp_total q)

tied : (q k : List ℕ) → eq_by_cmp order q k ≡ true → q ≡ k
tied q k e = one_name q k (equal _ e)

apart : (q k : List ℕ) → q ≢ k → eq_by_cmp order q k ≡ false
apart q k differ =
    elim (eq_by_cmp order q k) as (λ b. eq_by_cmp order q k ≡ b → b ≡ false)
    [ true ↦ λ e. absurd (differ (tied q k e)) | false ↦ λ e. refl ] refl

shadowed : (b : Bool) (x y z : Option (List ℕ)) → cond b x z ≡ cond b x (cond b y z)
shadowed true x y z = refl
shadowed false x y z = refl

swapped : (a b : Bool) (x y z : Option (List ℕ)) → (a ≡ true → b ≡ true → ⊥)
    → cond a x (cond b y z) ≡ cond b y (cond a x z)
swapped true true x y z differ = absurd (differ refl refl)
swapped true false x y z differ = refl
swapped false b x y z differ = refl

find_none : (files : Entries) (name : List ℕ) → ((j : ℕ) → j < length files → name_at files j ≢ name)
    → find order name files ≡ None
find_none [] name none = refl
find_none (file ∷ files) name none =
    ap (λ b. cond b (Some file.1) (find order name files)) (apart name file.0 (λ e. none 0 (omega arith) (sym e)))
    ∙ find_none files name (λ j h. none (suc j) (omega arith))

find_first : (files : Entries) (i : ℕ) → i < length files → ((j : ℕ) → j < i → name_at files j ≢ name_at files i)
    → find order (name_at files i) files ≡ Some (get_or files i ([], [])).1
find_first [] i within first = absurd (omega arith)
find_first (file ∷ files) zero within first = ap (λ b. cond b (Some file.1) (find order file.0 files)) (tie file.0)
find_first (file ∷ files) (suc i) within first =
    ap (λ b. cond b (Some file.1) (find order (name_at files i) files))
    (apart (name_at files i) file.0 (λ e. first 0 (omega arith) (sym e)))
    ∙ find_first files i (omega arith) (λ j h. first (suc j) (omega arith))

find-set : (files : Entries) (i : ℕ) (name bytes q : List ℕ) → i < length files → name_at files i ≡ name
    → ((j : ℕ) → j < i → name_at files j ≢ name)
    → find order q (set files i (name, bytes)) ≡ cond (eq_by_cmp order q name) (Some bytes) (find order q files)
find-set [] i name bytes q within at first = absurd (omega arith)
find-set (file ∷ files) zero name bytes q within at first =
    shadowed (eq_by_cmp order q name) (Some bytes) (Some file.1) (find order q files)
    ∙ ap (λ k. cond (eq_by_cmp order q name) (Some bytes)
    (cond (eq_by_cmp order q k) (Some file.1) (find order q files))) (sym at)
find-set (file ∷ files) (suc i) name bytes q within at first =
    ap (cond (eq_by_cmp order q file.0) (Some file.1))
    (find-set files i name bytes q (omega arith) at (λ j h. first (suc j) (omega arith)))
    ∙ swapped _ _ (Some file.1) (Some bytes) (find order q files)
    (λ a b. first 0 (omega arith) (sym (tied q file.0 a) ∙ tied q name b))

module _ (files : Entries) (i : ℕ) (first : IsFirst files i) where
  pub held_at : Holds (files_of files) (name_at files i) (get_or files i ([], [])).1
  held_at = get-from_entries nat_list_cmp_total files (name_at files i) ∙ find_first files i first.within first.first

  get-set : (bytes q : List ℕ)
      → get (files_of (set files i (name_at files i, bytes))) q
      ≡ cond (eq_by_cmp order q (name_at files i)) (Some bytes) (get (files_of files) q)
  get-set bytes q =
      get-from_entries nat_list_cmp_total _ q ∙ find-set files i (name_at files i) bytes q first.within refl first.first
      ∙ ap (cond (eq_by_cmp order q (name_at files i)) (Some bytes)) (sym (get-from_entries nat_list_cmp_total files q))

  pub put_at : (bytes : List ℕ)
      → files_of (set files i (name_at files i, bytes)) ≡ insert (files_of files) (name_at files i) bytes
  put_at bytes = same_map nat_list_cmp_total one_name _ _
      (λ q. get-set bytes q ∙ sym (get-insert nat_list_cmp_total (files_of files) (name_at files i) bytes q))

  pub appended_at : (piece bytes : List ℕ) → bytes ≡ (get_or files i ([], [])).1 ++ piece
      → Appends (name_at files i) piece (files_of files) (files_of (set files i (name_at files i, bytes)))
  appended_at piece bytes e = record {
    file = get-set bytes (name_at files i) ∙ rw (tie (name_at files i), held_at, e) refl;
    others = λ q differ. get-set bytes q ∙ rw (apart q (name_at files i) differ) refl;
  }

pub absent_from : (files : Entries) (name : List ℕ) → ((j : ℕ) → j < length files → name_at files j ≢ name)
    → IsAbsent (files_of files) name
absent_from files name none = get-from_entries nat_list_cmp_total files name ∙ find_none files name none

pub present_at : (files : Entries) (i : ℕ) (name : List ℕ) → IsFirst files i → name_at files i ≡ name
    → IsPresent (files_of files) name
present_at files i name first named =
    let held : get (files_of files) name ≡ Some (get_or files i ([], [])).1 =
    sym (ap (get (files_of files)) named) ∙ held_at files i first in
    subst IsSome (sym held) refl

-- a file that is given no bytes is emptied
pub emptied : (old new : Files) (name : List ℕ) → new ≡ insert old name [] → Empties name old new
emptied old new name put = record {
  file = ap (λ files. get files name) put ∙ get-insert nat_list_cmp_total old name [] name
      ∙ ap (λ b. cond b (Some []) (get old name)) (tie name);
  others = λ q differ. ap (λ files. get files q) put ∙ get-insert nat_list_cmp_total old name [] q
      ∙ ap (λ b. cond b (Some []) (get old q)) (apart q name differ);
}

pub put_more : (files : Entries) (name bytes : List ℕ) → IsAbsent (files_of files) name
    → files_of (files ++ (name, bytes) ∷ []) ≡ insert (files_of files) name bytes
put_more files name bytes none =
    from_entries_push nat_list_cmp_total one_name files name bytes
    (sym (get-from_entries nat_list_cmp_total files name) ∙ none)

-- what was done to the file at a place: d is the default that the read of it had
module _ (files : Entries) (i : ℕ) (first : IsFirst files i) (d old new : List ℕ × List ℕ)
    (read : old ≡ get_or files i d) where
  at_place : old ≡ get_or files i ([], [])
  at_place = read ∙ get_or_default files i d ([], []) first.within

  appended : (piece : List ℕ) → new.0 ≡ old.0 → Adds piece old.1 new.1
      → Appends (name_at files i) piece (files_of files) (files_of (set files i new))
  appended piece name adds =
      let bytes : new.1 ≡ (get_or files i ([], [])).1 ++ piece =
      adds ∙ ap (λ (f : List ℕ × List ℕ). f.1 ++ piece) at_place in
      let same : new.0 ≡ name_at files i = name ∙ ap (λ (f : List ℕ × List ℕ). f.0) at_place in
      subst (λ n. Appends (name_at files i) piece (files_of files) (files_of (set files i (n, new.1)))) (sym same)
      (appended_at files i first piece new.1 bytes)

  pub appended_whole : (whole : Bool) (piece : List ℕ) → new.0 ≡ old.0 → OnTrue whole (Adds piece old.1 new.1)
      → OnTrue whole (Appends (name_at files i) piece (files_of files) (files_of (set files i new)))
  appended_whole true piece name adds = appended piece name adds
  appended_whole false piece name adds = tt

  pub appended_part : (whole : Bool) (piece : List ℕ) → new.0 ≡ old.0 → OnFalse whole (AddsPrefix piece old.1 new.1)
      → OnFalse whole (AppendsPrefix (name_at files i) piece (files_of files) (files_of (set files i new)))
  appended_part true piece name adds = tt
  appended_part false piece name adds = (adds.0, appended (take adds.0 piece) name adds.1)

  pub put_over : (name bytes : List ℕ) → new ≡ (old.0, bytes) → name_at files i ≡ name
      → files_of (set files i new) ≡ insert (files_of files) name bytes
  put_over name bytes made named =
      let same : new ≡ (name_at files i, bytes) = made ∙ ap (λ (f : List ℕ × List ℕ). (f.0, bytes)) at_place in
      ap (λ f. files_of (set files i f)) same ∙ put_at files i first bytes
      ∙ ap (λ n. insert (files_of files) n bytes) named

none_named : (files : Entries) (name : List ℕ) → find order name files ≡ None → (j : ℕ) → j < length files
    → name_at files j ≢ name
none_named [] name none j h = absurd (omega arith)
none_named (file ∷ files) name none zero h =
    λ e. let found : Some file.1 ≡ None =
    sym (ap (λ b. cond b (Some file.1) (find order name files)) (ap (eq_by_cmp order name) e ∙ tie name)) ∙ none in
    cc
none_named (file ∷ files) name none (suc j) h =
    none_named files name
    (elim (eq_by_cmp order name file.0)
    as (λ b. cond b (Some file.1) (find order name files) ≡ None → find order name files ≡ None)
    [ true ↦ λ e. cc | false ↦ λ e. e ] none)
    j (omega arith)

-- a file of a new name at the end
module _ (files after : Entries) (name bytes : List ℕ) (none : IsAbsent (files_of files) name)
    (made : after ≡ files ++ (name, bytes) ∷ []) where
  pub put_last : files_of after ≡ insert (files_of files) name bytes
  put_last = ap (λ f. files_of f) made ∙ put_more files name bytes none

  last_name : name_at (files ++ (name, bytes) ∷ []) (length files) ≡ name
  last_name = ap (λ (f : List ℕ × List ℕ). f.0) (get_or_push files (name, bytes) ([], []) (length files) refl)

  earlier : (j : ℕ) → j < length files → name_at (files ++ (name, bytes) ∷ []) j ≡ name_at files j
  earlier j h = ap (λ (f : List ℕ × List ℕ). f.0) (get_or_append_left files _ ([], []) j h)

  pub last_place : (i : ℕ) → i ≡ length files → IsFirst after i × (name_at after i ≡ name)
  last_place i at =
      let absent = none_named files name (sym (get-from_entries nat_list_cmp_total files name) ∙ none) in
      let first : (j : ℕ) → j < length files
      → name_at (files ++ (name, bytes) ∷ []) j ≢ name_at (files ++ (name, bytes) ∷ []) (length files) =
      λ j h e. absent j h (sym (earlier j h) ∙ e ∙ last_name) in
      let place : IsFirst (files ++ (name, bytes) ∷ []) (length files) =
      record { within = rw (length-append) (omega arith); first = first } in
      rw (made, at) (place, last_name)

  pub names_stay : NamesStay files after
  names_stay = rw made (record { none_lost = rw (length-append) (omega arith); same = earlier })
