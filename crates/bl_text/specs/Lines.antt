-- The lines of a text.
use Rattle.std.specs.Prelude.{◌≡◌, ◌⊎◌, ℕ, List, [], ◌∷◌, ◌++◌, ◌==◌, if◌then◌else◌, false}
use Rattle.std.specs.List.{onto_first, flat_map, AllByRecursion}

-- Each line ends at a line feed, which the last may lack. Behind the last line feed stands no further empty line.
abbrev pub lines_of : List ℕ → List (List ℕ)
lines_of [] = []
lines_of (byte ∷ rest) = if byte == 10 then [] ∷ lines_of rest else onto_first byte (lines_of rest)

-- a line with its line feed
abbrev pub ended : List ℕ → List ℕ
ended line = line ++ 10 ∷ []

-- no line feed stands in these bytes
abbrev pub IsLine : List ℕ → Type 0
IsLine bytes = AllByRecursion (λ byte. (byte == 10) ≡ false) bytes

-- a last line without its line feed, where there is one
abbrev pub unended : List ℕ → List (List ℕ)
unended [] = []
unended (byte ∷ rest) = (byte ∷ rest) ∷ []

-- the line comes first in the text, and behind its line feed the rest; or it is all of the text
abbrev pub IsCut : List ℕ → List ℕ → List ℕ → Type 0
IsCut text line rest = (text ≡ line ++ 10 ∷ rest) ⊎ ((text ≡ line) × (rest ≡ []))

-- A text that begins with lines has these lines first, and bytes without a line feed are one line at most.
pub record HasItsLines : Type 0 where
  pub ended : (lines : List (List ℕ)) (rest : List ℕ) → AllByRecursion IsLine lines
      → lines_of (flat_map ended lines ++ rest) ≡ lines ++ lines_of rest
  pub last : (last : List ℕ) → IsLine last → lines_of last ≡ unended last

-- Each text is its lines, each with its line feed, but perhaps for the last.
abbrev pub IsItsLines : Type 0
IsItsLines = (text : List ℕ) → AllByRecursion IsLine (lines_of text)
    × ((flat_map ended (lines_of text) ≡ text) ⊎ (flat_map ended (lines_of text) ≡ ended text))
