-- Internal: files in memory, as a list of pairs.
use Rattle.std.specs.Prelude.{◌≡◌, ◌≢◌, ℕ, ◌<◌, ◌≤◌, List, [], length, slice_index_or}
use Rattle.std.specs.FinMap.{from_entries}
use Rattle.bl_outer.specs.Files.{Files}

-- the files as pairs of a name and its bytes
abbrev pub Entries : Type 0
Entries = List (List ℕ × List ℕ)

-- the files by name: of two pairs with one name the first counts
abbrev pub files_of : Entries → Files
files_of files = from_entries files

-- the name at this place
abbrev pub name_at : Entries → ℕ → List ℕ
name_at files i = (slice_index_or files i ([], [])).0

-- the file at this place is the first of its name
pub record IsFirst (files : Entries) (i : ℕ) : Type 0 where
  pub within : i < length files
  pub first : (j : ℕ) → j < i → name_at files j ≢ name_at files i

-- each file keeps its place and its name
pub record NamesStay (old new : Entries) : Type 0 where
  pub none_lost : length old ≤ length new
  pub same : (i : ℕ) → i < length old → name_at new i ≡ name_at old i
