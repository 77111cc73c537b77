-- Trusted. What a put answers, and the pool that it leaves.
use Rattle.std.specs.Prelude.{◌≡◌, ◌≢◌, ◌<◌, length, Result, Ok, Err, MatchOption, None}
use Rattle.bl_fproof.specs.Entries.{Admitted}
use Rattle.bl_pool.specs.declared.fail.PutFail.{PutFail}
use Rattle.bl_pool.specs.declared.fail.PutFail.TheVariants.{OtherModel, NotKept, Memory}
use Rattle.bl_pool.specs.Pools.{EntryPool, entry_of_link, with_entry}

-- the entry is of a new link, for which there was a place; it is what was kept
pub record IsAdded (old : EntryPool) (e kept : Admitted) (new : EntryPool) : Type 0 where
  pub place : length old.entries < old.most
  pub entry : kept ≡ e
  pub after : new ≡ with_entry old e

-- the first entry of the link was there already, and stays what is kept
pub record IsThere (old : EntryPool) (first kept : Admitted) (new : EntryPool) : Type 0 where
  pub entry : kept ≡ first
  pub after : new ≡ old

-- Ok: the entry is of the pool's program
pub record IsKept (old : EntryPool) (e kept : Admitted) (new : EntryPool) : Type 0 where
  pub model : e.program ≡ old.program
  pub answer : MatchOption (entry_of_link e.link old.entries) (IsAdded old e kept new)
      (λ first. IsThere old first kept new)

-- the entry is of another program; it is handed back
pub record IsOfOtherModel (old : EntryPool) (e back : Admitted) (new : EntryPool) : Type 0 where
  pub model : e.program ≢ old.program
  pub entry : back ≡ e
  pub after : new ≡ old

-- the entry is of a new link, for which there was no place; it is handed back
pub record IsWithoutPlace (old : EntryPool) (e back : Admitted) (new : EntryPool) : Type 0 where
  pub model : e.program ≡ old.program
  pub absent : entry_of_link e.link old.entries ≡ None
  pub full : length old.entries ≡ old.most
  pub entry : back ≡ e
  pub after : new ≡ old

-- there was no memory; the entry is of the pool's program, and is given up
pub record IsGivenUp (old : EntryPool) (e : Admitted) (new : EntryPool) : Type 0 where
  pub model : e.program ≡ old.program
  pub after : new ≡ old

-- what the put of an entry answers, and the pool that it leaves
abbrev pub IsPut : EntryPool → Admitted → Result Admitted PutFail → EntryPool → Type 0
IsPut old e (Ok kept) new = IsKept old e kept new
IsPut old e (Err (OtherModel back)) new = IsOfOtherModel old e back new
IsPut old e (Err (NotKept back)) new = IsWithoutPlace old e back new
IsPut old e (Err Memory) new = IsGivenUp old e new
