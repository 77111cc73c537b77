-- Trusted. What any puts leave in a pool.
use Rattle.std.specs.Prelude.{◌≡◌, ◌≢◌, ◌++◌, ◌∷◌, [], ℤ, List, All, Contains, MatchOption, Some}
use Rattle.std.specs.Prelude.{Result, Ok, map, filter}
use Rattle.std.specs.Result.{is_ok}
use Rattle.bl_fproof.specs.Entries.{Admitted}
use Rattle.bl_pool.specs.declared.fail.PutFail.{PutFail}
use Rattle.bl_pool.specs.Pools.{EntryPool, entry_of_link}
use Rattle.bl_pool.specs.Puts.{IsPut}

-- the entry of a link is among the entries and of that link, and none is exactly where no entry is of it
abbrev pub FindsTheLink : Type 0
FindsTheLink = (l : List ℤ) (entries : List Admitted) → MatchOption (entry_of_link l entries)
    (All (λ e. e.link ≢ l) entries) (λ e. Contains entries e × (e.link ≡ l))

-- a put: the entry and the answer
pub record Put : Type 0 where
  pub entry : Admitted
  pub answer : Result Admitted PutFail

-- the puts lead from one pool to another
abbrev pub ArePuts : EntryPool → List Put → EntryPool → Type 0
ArePuts old [] new = new ≡ old
ArePuts old (put ∷ puts) new = (next : EntryPool) × IsPut old put.entry put.answer next × ArePuts next puts new

-- the entries whose put is answered Ok
abbrev pub kept_of : List Put → List Admitted
kept_of puts = map (λ put. put.entry) (filter (λ put. is_ok put.answer) puts)

-- what any puts leave: of each link the first entry, among those that were there and then those that were kept
pub record KeepsTheFirst : Type 0 where
  pub first : (old new : EntryPool) (puts : List Put) (l : List ℤ) → ArePuts old puts new
      → entry_of_link l new.entries ≡ entry_of_link l (old.entries ++ kept_of puts)
  -- so an entry that is there stays
  pub stays : (old new : EntryPool) (puts : List Put) (l : List ℤ) (e : Admitted) → ArePuts old puts new
      → entry_of_link l old.entries ≡ Some e → entry_of_link l new.entries ≡ Some e
  -- and nothing changes of a link of which none is put
  pub others : (old new : EntryPool) (puts : List Put) (l : List ℤ) → ArePuts old puts new
      → All (λ e. e.link ≢ l) (kept_of puts) → entry_of_link l new.entries ≡ entry_of_link l old.entries
  -- and what is answered as kept is what the pool has of the link
  pub answer : (old new : EntryPool) (e kept : Admitted) → IsPut old e (Ok kept) new
      → entry_of_link e.link new.entries ≡ Some kept
