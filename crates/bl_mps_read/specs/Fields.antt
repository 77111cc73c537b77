-- The fields of data lines by their number.
use Rattle.std.specs.Prelude.{List, [], ◌∷◌, Option, Some, None}
use Rattle.std.specs.Option.{option_map}
use Rattle.bl_mps_terms.specs.Words.{Bytes}

-- less than two fields
abbrev pub IsShort : List Bytes → Type 0
IsShort [] = Unit {0}
IsShort (a ∷ []) = Unit {0}
IsShort (a ∷ b ∷ more) = ⊥

abbrev pub only_in : List Bytes → Option Bytes
only_in [] = None
only_in (a ∷ []) = Some a
only_in (a ∷ b ∷ more) = None

-- just two fields
abbrev pub pair_in : List Bytes → Option (Bytes × Bytes)
pair_in [] = None
pair_in (a ∷ []) = None
pair_in (a ∷ b ∷ []) = Some (a, b)
pair_in (a ∷ b ∷ c ∷ more) = None

-- one pair alone, or one and then another
abbrev pub pairs_in : List Bytes → Option (List (Bytes × Bytes))
pairs_in [] = None
pairs_in (a ∷ []) = None
pairs_in (a ∷ b ∷ []) = Some ((a, b) ∷ [])
pairs_in (a ∷ b ∷ c ∷ more) = option_map (λ pair. (a, b) ∷ pair ∷ []) (pair_in (c ∷ more))

-- a name, and one or two pairs of a row's name and a number
pub record EntryFields : Type 0 where
  pub name : Bytes
  pub pairs : List (Bytes × Bytes)

abbrev pub entry_in : List Bytes → Option EntryFields
entry_in [] = None
entry_in (name ∷ fields) = option_map (λ pairs. record { name = name; pairs = pairs }) (pairs_in fields)

-- perhaps a set name, and one or two pairs
abbrev pub set_pairs_in : List Bytes → Option (List (Bytes × Bytes))
set_pairs_in (a ∷ b ∷ []) = Some ((a, b) ∷ [])
set_pairs_in (set ∷ a ∷ b ∷ []) = Some ((a, b) ∷ [])
set_pairs_in (a ∷ b ∷ c ∷ d ∷ []) = Some ((a, b) ∷ (c, d) ∷ [])
set_pairs_in (set ∷ a ∷ b ∷ c ∷ d ∷ []) = Some ((a, b) ∷ (c, d) ∷ [])
set_pairs_in fields = None
