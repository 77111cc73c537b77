-- Trusted: what reading a whole file answers and leaves.
use Rattle.std.specs.Prelude.{◌≡◌, ℕ, ◌<◌, ◌≤◌, List, ◌++◌, take, length, Ok, Err}
use Rattle.std.specs.declared.result.Result.{Result}
use Rattle.bl_outer.specs.declared.text.Got.{Got}
use Rattle.bl_outer.specs.declared.text.Got.TheVariants.{Whole, Missing, Longer}
use Rattle.bl_outer.specs.declared.text.ReadFail.{ReadFail}
use Rattle.bl_outer.specs.declared.text.ReadFail.TheVariants.{Failed, Memory}
use Rattle.bl_outer.specs.Count.{Grew}
use Rattle.bl_outer.specs.Files.{Files, Holds, IsAbsent, bytes_of}
use Rattle.bl_outer.specs.Shelf.{ShelfState, NoReadFault, FaultsOn}

-- front is a first part of the list
abbrev pub IsPrefix : List ℕ → List ℕ → Type 0
IsPrefix front xs = (rest : List ℕ) × (xs ≡ front ++ rest)

-- the file has more bytes than the limit, and these are the first of them
pub record IsTruncated (name : List ℕ) (limit : ℕ) (text : List ℕ) (files : Files) : Type 0 where
  pub bytes : List ℕ
  pub held : Holds files name bytes
  pub longer : limit < length bytes
  pub front : text ≡ take limit bytes

-- what was read of the file of this name, by the answer
abbrev pub IsRead : Result Got ReadFail → List ℕ → ℕ → List ℕ → Files → Type 0
IsRead (Ok Whole) name limit text files = Holds files name text
IsRead (Ok Longer) name limit text files = IsTruncated name limit text files
IsRead (Ok Missing) name limit text files = IsAbsent files name
IsRead (Err _) name limit text files = IsPrefix text (bytes_of files name)

-- how much was read, by the answer, also where the files aren't told
abbrev pub HasLength : Result Got ReadFail → ℕ → ℕ → Type 0
HasLength (Ok Whole) limit len = len ≤ limit
HasLength (Ok Longer) limit len = len ≡ limit
HasLength (Ok Missing) limit len = len ≡ 0
HasLength (Err _) limit len = len ≤ limit

-- the read faults rose where the answer is Failed, and stayed after any other
abbrev pub CountsFailed : List ℕ → ShelfState → ShelfState → Result Got ReadFail → Type 0
CountsFailed name old new (Ok _) = NoReadFault old new
CountsFailed name old new (Err Failed) = FaultsOn name old new
CountsFailed name old new (Err Memory) = NoReadFault old new

-- the misses rose where the answer is Missing, and stayed after any other
abbrev pub CountsMissing : ShelfState → ShelfState → Result Got ReadFail → Type 0
CountsMissing old new (Ok Whole) = new.misses ≡ old.misses
CountsMissing old new (Ok Longer) = new.misses ≡ old.misses
CountsMissing old new (Ok Missing) = Grew old.misses new.misses
CountsMissing old new (Err _) = new.misses ≡ old.misses
