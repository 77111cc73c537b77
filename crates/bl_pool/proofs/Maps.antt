-- The map of a pool as the list of its entries.
use Rattle.std.proofs.Common.{◌≡◌, ◌<◌, ℕ, cond, false, List, [], ◌∷◌, ◌++◌, ℤ, Option, Some, None, refl}
use Rattle.std.proofs.Common.{sym, ap, subst, ◌∙◌, map, length, arith, Bor, IfSome}
use Rattle.std.specs.Cmp.Lexicographic.{pointwise, lists_equiv}
use Rattle.std.specs.List.{IsDistinct, list_any}
use Rattle.std.specs.Map.{lookup, values_of}
use Rattle.std.specs.Option.{option_copied}
use Rattle.std.specs.Ordering.{int_eq}
use Rattle.std.specs.declared.vec.Vec.{Vec}
use Rattle.std.proofs.lemmas.Cmp.{int_eq_equiv}
use Rattle.std.proofs.lemmas.List.{map_push, length_push}
use Rattle.std.proofs.lemmas.List.Elements.{All-contains, All-nil, All-push}
use Rattle.std.proofs.lemmas.Map.Keys.{IsDistinct-push}
use Rattle.indexmap.specs.IndexMap.{IndexMap, insert_entry}
use Rattle.indexmap.proofs.CallerLemmas.{insert_entry-new}
use Rattle.bl_terms.specs.Programs.{Program}
use Rattle.bl_fproof.specs.Entries.{Admitted}
use Rattle.bl_pool.specs.Links.{AreByLink}
use Rattle.bl_pool.specs.Pools.{EntryPool, IsEntryAt, IsEntryOf, IsPool, entry_of_link, with_entry}
use Rattle.bl_pool.proofs.Finds.{IsFound, find-none, found}

-- what is looked up in the map is the entry of the link
pub looked_up : {Z : Type 0} (l : List ℤ) (entries : List (Vec ℤ Z × Admitted)) → AreByLink entries
    → lookup (λ k. pointwise int_eq l k.items) entries ≡ entry_of_link l (values_of entries)
looked_up l [] by_link = refl
looked_up l (e ∷ entries) by_link =
    ap (λ (k : List ℤ). cond (pointwise int_eq l k) (Some e.1) (lookup (λ k. pointwise int_eq l k.items) entries))
    by_link.0
    ∙ ap (λ (r : Option Admitted). cond (pointwise int_eq l e.1.link) (Some e.1) r) (looked_up l entries by_link.1)

-- the map has one more entry, at its end
pub record IsPushed {Z : Type 0} (old : List (Vec ℤ Z × Admitted)) (e : Admitted) (new : List (Vec ℤ Z × Admitted))
    : Type 0 where
  pub by_link : AreByLink new
  pub values : values_of new ≡ values_of old ++ e ∷ []

by_link-push : {Z : Type 0} (entries : List (Vec ℤ Z × Admitted)) (k : Vec ℤ Z) (e : Admitted) → k.items ≡ e.link
    → AreByLink entries → AreByLink (entries ++ (k, e) ∷ [])
by_link-push [] k e here by_link = (here, tt)
by_link-push (f ∷ entries) k e here by_link = (by_link.0, by_link-push entries k e here by_link.1)

-- an entry of a link that isn't there goes to the end of the map
pub pushed : {Z S : Type 0} (m : IndexMap (Vec ℤ Z) Admitted S) (new : List (Vec ℤ Z × Admitted)) (k : Vec ℤ Z)
    (e : Admitted) → AreByLink m.entries → k.items ≡ e.link → entry_of_link e.link (values_of m.entries) ≡ None
    → new ≡ insert_entry (λ x y. pointwise int_eq x.items y.items) m.entries k e → IsPushed m.entries e new
pushed m new k e by_link here none put =
    let absent = looked_up k.items m.entries by_link
    ∙ ap (λ (l : List ℤ). entry_of_link l (values_of m.entries)) here ∙ none in
    let end : new ≡ m.entries ++ (k, e) ∷ [] =
    put ∙ insert_entry-new (λ x y. pointwise int_eq x.items y.items) m k e absent in
    record {
      by_link = rw end (by_link-push m.entries k e here by_link);
      values = ap values_of end ∙ map_push (λ e. e.1) m.entries (k, e);
    }

no_other : (l : List ℤ) (entries : List Admitted) → entry_of_link l entries ≡ None
    → list_any (pointwise int_eq l) (map (λ e. e.link) entries) ≡ false
no_other l entries none = find-none (pointwise int_eq l) (λ e. e.link) entries none

-- a pool with one more entry is a pool
pub pool-push : (pool : EntryPool) (e : Admitted) → IsPool pool → IsEntryOf pool.program e
    → entry_of_link e.link pool.entries ≡ None → length pool.entries < pool.most → IsPool (with_entry pool e)
pool-push pool e is entry none place = record {
  admitted = All-push (IsEntryOf pool.program) pool.entries e is.admitted entry;
  distinct = subst (IsDistinct (pointwise int_eq)) (sym (map_push (λ e. e.link) pool.entries e))
      (IsDistinct-push (lists_equiv int_eq_equiv) (map (λ e. e.link) pool.entries) e.link is.distinct
      (no_other e.link pool.entries none));
  few = rw (length_push pool.entries e) (omega (arith, place));
}

-- a pool without entries is a pool
pub pool-none : (p : Program) (most : ℕ) → IsPool (record { program = p; most = most; entries = [] })
unfolding IsDistinct
pool-none p most = record { admitted = All-nil (IsEntryOf p); distinct = tt; few = omega arith }

-- an entry that is found in a pool is one of that link
at_link : (pool : EntryPool) (l : List ℤ) (e : Admitted) → IsPool pool → entry_of_link l pool.entries ≡ Some e
    → IsEntryAt pool.program l e
at_link pool l e is at =
    let here = subst (IsFound l pool.entries) at (found l pool.entries) in
    record { entry = All-contains (IsEntryOf pool.program) pool.entries e is.admitted here.0; link = here.1 }

pub lent : (pool : EntryPool) (l : List ℤ) (r : Option (Bor Admitted)) → IsPool pool
    → option_copied r ≡ entry_of_link l pool.entries → IfSome r (λ kept. IsEntryAt pool.program l kept.now)
lent pool l None is at = tt
lent pool l (Some kept) is at = at_link pool l kept.now is (sym at)
