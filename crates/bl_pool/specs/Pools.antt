-- Trusted. A pool of entries as the list of them, and the entry of a link there.
use Rattle.std.specs.Prelude.{◌≡◌, ◌++◌, ◌∷◌, [], ◌≤◌, ℕ, ℤ, List, Option, All, length, map}
use Rattle.std.specs.Cmp.Lexicographic.{pointwise}
use Rattle.std.specs.List.{IsDistinct, find}
use Rattle.std.specs.Ordering.{int_eq}
use Rattle.bl_terms.specs.Programs.{Program}
use Rattle.bl_fproof.specs.Entries.{Admitted, IsAdmitted}

-- a pool: the program that its entries are of, how many of them there may be, and the entries in the order in which
-- they were put
pub record EntryPool : Type 0 where
  pub program : Program
  pub most : ℕ
  pub entries : List Admitted

-- an admitted entry of the program
pub record IsEntryOf (p : Program) (e : Admitted) : Type 0 where
  pub program : e.program ≡ p
  pub admitted : IsAdmitted e

-- ... and of the link
pub record IsEntryAt (p : Program) (l : List ℤ) (e : Admitted) : Type 0 where
  pub entry : IsEntryOf p e
  pub link : e.link ≡ l

-- what every pool keeps: its entries are admitted, no two are of the same link, and there aren't too many
pub record IsPool (pool : EntryPool) : Type 0 where
  pub admitted : All (IsEntryOf pool.program) pool.entries
  pub distinct : IsDistinct (pointwise int_eq) (map (λ e. e.link) pool.entries)
  pub few : length pool.entries ≤ pool.most

-- the first entry that is of the link, number for number
abbrev pub entry_of_link : List ℤ → List Admitted → Option Admitted
entry_of_link l entries = find (λ e. pointwise int_eq l e.link) entries

-- the pool with one more entry
abbrev pub with_entry : EntryPool → Admitted → EntryPool
with_entry pool e = record { program = pool.program; most = pool.most; entries = pool.entries ++ e ∷ [] }
