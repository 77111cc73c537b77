-- Trusted: what a shelf tells of itself, and what its calls choose, give and count.
use Rattle.std.specs.Prelude.{◌≡◌, ℕ, ◌+◌, List, [], take, drop, ⊤, Ok, Err}
use Rattle.std.specs.declared.option.Option.{Option}
use Rattle.std.specs.declared.result.Result.{Result}
use Rattle.bl_outer.specs.declared.shelf.Found.{Found}
use Rattle.bl_outer.specs.declared.shelf.Found.TheVariants.{Here, Missing}
use Rattle.bl_outer.specs.Count.{Grew}
use Rattle.bl_outer.specs.Files.{Files, IfTold, IsPresent, IsAbsent, bytes_of}

-- At most one file is chosen: none, this file to be read from this place on, or this file to be written at its end.
pub data Mode : Type 0 where
  Nothing : Mode
  Reading : List ℕ → ℕ → Mode
  Writing : List ℕ → Mode

-- What a shelf tells: its files, the chosen one, how many calls of `find` and `next` failed, how many of
-- `begin`, `append` and `finish`, how many of `find` answered Missing, and on which file the last `find` or
-- `next` that failed was called. The files and that name are None where the shelf doesn't tell them.
pub record ShelfState : Type 0 where
  pub contents : Option Files
  pub mode : Mode
  pub read_faults : ℕ
  pub write_faults : ℕ
  pub misses : ℕ
  pub faulted : Option (List ℕ)

-- a file is chosen for reading
abbrev pub IsReading : Mode → Type 0
IsReading Nothing = ⊥
IsReading (Reading name place) = Unit {0}
IsReading (Writing name) = ⊥

-- a file is chosen for writing
abbrev pub IsWriting : Mode → Type 0
IsWriting Nothing = ⊥
IsWriting (Reading name place) = ⊥
IsWriting (Writing name) = Unit {0}

-- the name of the chosen file
abbrev pub chosen_name : Mode → List ℕ
chosen_name Nothing = []
chosen_name (Reading name place) = name
chosen_name (Writing name) = name

-- how far the chosen file has been read
abbrev pub chosen_place : Mode → ℕ
chosen_place Nothing = 0
chosen_place (Reading name place) = place
chosen_place (Writing name) = 0

-- what is chosen after a `find`
abbrev pub mode_found : {E : Type 0} → List ℕ → Result Found E → Mode
mode_found name (Ok Here) = Reading name 0
mode_found name (Ok Missing) = Nothing
mode_found name (Err _) = Nothing

-- what is chosen after a `next`: the place has moved by what was given
abbrev pub mode_read : {E : Type 0} → Mode → Result ℕ E → Mode
mode_read mode (Ok n) = Reading (chosen_name mode) (chosen_place mode + n)
mode_read mode (Err _) = Nothing

-- what is chosen after a `begin`
abbrev pub mode_begun : {T E : Type 0} → List ℕ → Result T E → Mode
mode_begun name (Ok _) = Writing name
mode_begun name (Err _) = Nothing

-- a `find` answers Missing exactly where the name is absent
abbrev pub FindsIn : {E : Type 0} → Result Found E → List ℕ → Files → Type 0
FindsIn (Ok Here) name files = IsPresent files name
FindsIn (Ok Missing) name files = IsAbsent files name
FindsIn (Err _) name files = ⊤

-- the first n bytes given are the next ones of the file, and there is one unless the file ends here
abbrev pub GivesNext : Mode → ℕ → List ℕ → Files → Type 0
GivesNext mode n given files =
    let left = drop (chosen_place mode) (bytes_of files (chosen_name mode)) in
    (take n given ≡ take n left) × (n ≡ 0 → left ≡ [])

-- nothing was written: the files and the count of write faults are as before
pub record OnlyReads (old new : ShelfState) : Type 0 where
  pub contents : new.contents ≡ old.contents
  pub write_faults : new.write_faults ≡ old.write_faults

-- nothing was read: the counts of read faults and of misses, and the name that failed last, are as before
pub record OnlyWrites (old new : ShelfState) : Type 0 where
  pub read_faults : new.read_faults ≡ old.read_faults
  pub misses : new.misses ≡ old.misses
  pub faulted : new.faulted ≡ old.faulted

-- reading the file of this name failed: that was counted, and where the shelf tells the name that failed last, it is
-- this
pub record FaultsOn (name : List ℕ) (old new : ShelfState) : Type 0 where
  pub counted : Grew old.read_faults new.read_faults
  pub named : IfTold new.faulted (λ faulted. faulted ≡ name)

-- no reading failed: the count of read faults and the name that failed last are as before
pub record NoReadFault (old new : ShelfState) : Type 0 where
  pub read_faults : new.read_faults ≡ old.read_faults
  pub faulted : new.faulted ≡ old.faulted

-- a call that read the file of this name failed, and the fault is counted; or it didn't, and nothing is
abbrev pub CountsFault : {T E : Type 0} → List ℕ → ShelfState → ShelfState → Result T E → Type 0
CountsFault name old new (Ok _) = NoReadFault old new
CountsFault name old new (Err _) = FaultsOn name old new

-- the misses rose where the answer is Missing, and stayed after any other
abbrev pub CountsMiss : {E : Type 0} → ShelfState → ShelfState → Result Found E → Type 0
CountsMiss old new (Ok Here) = new.misses ≡ old.misses
CountsMiss old new (Ok Missing) = Grew old.misses new.misses
CountsMiss old new (Err _) = new.misses ≡ old.misses
