-- Internal. The numbers that pairs list, put one after another into a list of zeros.
use Rattle.std.specs.Prelude.{ℕ, ℤ, pos, negsuc, List, [], ◌∷◌, length, slice_set, if◌then◌else◌, nat_lt}
use Rattle.bl_terms.specs.Points.{zeros}

-- the list with the number at the index, where it is one of the places
abbrev pub with_number : List ℤ → ℤ → ℤ → List ℤ
with_number numbers (pos i) number = if nat_lt i (length numbers) then slice_set numbers i number else numbers
with_number numbers (negsuc i) number = numbers

-- n numbers: those of the pairs, the first last
abbrev pub numbers_of : ℕ → List (ℤ × ℤ) → List ℤ
numbers_of n [] = zeros n
numbers_of n (pair ∷ pairs) = with_number (numbers_of n pairs) pair.0 pair.1
