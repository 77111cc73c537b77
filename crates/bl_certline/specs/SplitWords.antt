-- Internal. The words of a line that are left.
use Rattle.std.specs.Prelude.{◌==◌, Bool, true, false, List, [], ◌∷◌, Option, Some, None}
use Rattle.std.specs.List.{slice_split}
use Rattle.bl_certline.specs.Fields.{Bytes}

-- what stands between the spaces of a line
abbrev pub split_words : Bytes → List Bytes
split_words line = slice_split (λ b. b == 32) line

-- the words of what is left of a line; none where nothing is
abbrev pub words_left : Option Bytes → List Bytes
words_left None = []
words_left (Some bytes) = split_words bytes

-- the first word, and those behind it
abbrev pub first_word : List Bytes → Option (Bytes × List Bytes)
first_word [] = None
first_word (word ∷ words) = Some (word, words)

abbrev pub is_empty : List Bytes → Bool
is_empty [] = true
is_empty (word ∷ words) = false
