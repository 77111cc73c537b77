-- The fields of a line.
use Rattle.std.specs.Prelude.{◌≡◌, ℕ, Bool, true, false, List, [], ◌∷◌, ◌++◌, ◌||◌, ◌==◌, nat_lt, length, filter}
use Rattle.std.specs.List.{slice_split, AllByRecursion}

-- a space, a tab or a carriage return
abbrev pub is_blank : ℕ → Bool
is_blank byte = byte == 32 || (byte == 9 || byte == 13)

abbrev pub is_nonempty : List ℕ → Bool
is_nonempty bytes = nat_lt 0 (length bytes)

-- the runs of bytes between the blanks
abbrev pub fields_of : List ℕ → List (List ℕ)
fields_of line = filter is_nonempty (slice_split is_blank line)

abbrev pub begins_with_blank : List ℕ → Bool
begins_with_blank [] = false
begins_with_blank (byte ∷ rest) = is_blank byte

-- bytes, at least one and none of them blank
abbrev pub IsField : List ℕ → Type 0
IsField [] = ⊥
IsField (byte ∷ rest) = AllByRecursion (λ b. is_blank b ≡ false) (byte ∷ rest)

-- What fixes the fields of every line: a run without a blank is one field, and a blank parts what stands before it
-- from what stands behind it and says nothing else.
pub record AreRuns : Type 0 where
  pub each : (line : List ℕ) → AllByRecursion IsField (fields_of line)
  pub none : fields_of [] ≡ []
  pub run : (run : List ℕ) → IsField run → fields_of run ≡ run ∷ []
  pub parted : (front back : List ℕ) (blank : ℕ) → is_blank blank ≡ true
      → fields_of (front ++ blank ∷ back) ≡ fields_of front ++ fields_of back
