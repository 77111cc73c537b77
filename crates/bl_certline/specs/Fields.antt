-- Trusted. The fields of a certificate's line.
use Rattle.std.specs.Prelude.{◌≡◌, ◌≢◌, ℕ, ◌<◌, ◌≤◌, List, ◌∷◌, ◌++◌, length, slice_index, ℤ, pos, Option}
use Rattle.std.specs.Prelude.{Some, None, FitsSigned}
use Rattle.std.specs.Int.{w64}
use Rattle.std.specs.Fmt.{signed_decimal}

-- bytes in no particular encoding
abbrev pub Bytes : Type 0
Bytes = List ℕ

-- a number of 64 bits
abbrev pub IsWhole : ℤ → Type 0
IsWhole z = FitsSigned w64 z

-- A reader finds the value that it looks for, and nothing exactly where there is none.
abbrev pub Finds : {X : Type 0} → (X → Type 0) → Option X → Type 0
Finds {X} Is None = (x : X) → Is x → ⊥
Finds Is (Some x) = Is x

-- the field is the plain decimal of the number: `-` only before a number below 0, no leading zero
pub record IsWholeField (field : Bytes) (z : ℤ) : Type 0 where
  pub whole : IsWhole z
  pub spelled : field ≡ signed_decimal z

-- an index, a colon and the index's number
abbrev pub pair_word : ℤ × ℤ → Bytes
pair_word p = signed_decimal p.0 ++ 58 ∷ signed_decimal p.1

-- an index and a number other than 0
pub record IsPair (p : ℤ × ℤ) : Type 0 where
  pub index : IsWhole p.0
  pub number : IsWhole p.1
  pub nonzero : p.1 ≢ pos 0

-- the field is the spelling of the pair
pub record IsPairField (field : Bytes) (p : ℤ × ℤ) : Type 0 where
  pub pair : IsPair p
  pub spelled : field ≡ pair_word p

-- the place of the first line feed at or behind a place
pub record IsNextLineFeed (bytes : Bytes) (from place : ℕ) : Type 0 where
  pub behind : from ≤ place
  pub within : place < length bytes
  pub line_feed : slice_index bytes place ≡ 10
  pub first : (k : ℕ) → from ≤ k → k < place → slice_index bytes k ≢ 10
