-- Trusted: the files of a shelf, which are a finite map from names to bytes. A name is the bytes of its text.
use Rattle.std.specs.Prelude.{◌≡◌, ◌≢◌, ℕ, List, [], ◌++◌, take, ◌⊎◌, ⊤, None, Some, IsSome, unwrap_or}
use Rattle.std.specs.declared.option.Option.{Option}
use Rattle.std.specs.Option.{option_map}
use Rattle.std.specs.Ordering.{nat_cmp}
use Rattle.std.specs.Cmp.Lexicographic.{slice_cmp}
use Rattle.std.specs.FinMap.{FinMap, get}

abbrev pub Files : Type 0
Files = FinMap (slice_cmp nat_cmp) (List ℕ)

-- the file of this name has these bytes
abbrev pub Holds : Files → List ℕ → List ℕ → Type 0
Holds files name bytes = get files name ≡ Some bytes

-- there is a file of this name
abbrev pub IsPresent : Files → List ℕ → Type 0
IsPresent files name = IsSome (get files name)

-- there is no file of this name
abbrev pub IsAbsent : Files → List ℕ → Type 0
IsAbsent files name = get files name ≡ None

-- the bytes of the file of this name, and none where there is no such file
abbrev pub bytes_of : Files → List ℕ → List ℕ
bytes_of files name = unwrap_or (get files name) []

-- every file but this one is as before
abbrev pub OthersStay : List ℕ → Files → Files → Type 0
OthersStay name old new = (other : List ℕ) → other ≢ name → get new other ≡ get old other

-- the file of this name is there and empty, and every other file is as before
pub record Empties (name : List ℕ) (old new : Files) : Type 0 where
  pub file : Holds new name []
  pub others : OthersStay name old new

-- the file of this name has got the piece at its end, and every other file is as before
pub record Appends (name piece : List ℕ) (old new : Files) : Type 0 where
  pub file : get new name ≡ option_map (λ bytes. bytes ++ piece) (get old name)
  pub others : OthersStay name old new

-- the file of this name has got some first bytes of the piece at its end, and every other file is as before
abbrev pub AppendsPrefix : List ℕ → List ℕ → Files → Files → Type 0
AppendsPrefix name piece old new = (n : ℕ) × Appends name (take n piece) old new

-- nothing has changed, or the file of this name is there and empty and every other file is as before
abbrev pub StaysOrEmpties : List ℕ → Files → Files → Type 0
StaysOrEmpties name old new = (new ≡ old) ⊎ Empties name old new

-- P holds of what is told; nothing is said where nothing is told
abbrev pub IfTold : {T : Type 0} → Option T → (T → Type 0) → Type 0
IfTold None P = ⊤
IfTold (Some told) P = P told

-- what is told stays told, and P holds between before and after
abbrev pub Told : {T : Type 0} → (T → T → Type 0) → Option T → Option T → Type 0
Told P None None = ⊤
Told P None (Some after) = ⊥
Told P (Some before) None = ⊥
Told P (Some before) (Some after) = P before after
