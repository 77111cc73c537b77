-- Trusted: the pivot, what stands at each place after it, where it first passes 128 bits, and the replay of a list of
-- pivots.
use Rattle.std.specs.Prelude.{◌≡◌, ◌≢◌, ℕ, zero, suc, ◌<◌, ◌≤◌, ◌⊎◌, ◌==◌, if◌then◌else◌, Bool, Option, None, IsSome}
use Rattle.std.specs.Prelude.{unwrap_or, option_map, option_and_then, pos, List, [], ◌∷◌, ◌++◌}
use Rattle.bl_terms.specs.Bounds.{Problem}
use Rattle.bl_simplex.specs.Fractions.{Fraction, whole_fraction, negated, product_of, quotient_of, difference_of}
use Rattle.bl_simplex.specs.Dictionaries.{Dictionary, columns, cost_row, height_of, width_of, opening}

-- the scaled entry: a number of the pivot row, divided by the pivot; at the pivot's own column one over the pivot
abbrev pub scaled_entry : Fraction → Fraction → Bool → Option Fraction
scaled_entry x pivot own = if own then quotient_of (whole_fraction (pos 1)) pivot else quotient_of x pivot

-- the eliminated entry: a number x of another row, whose entry in the pivot column is e, less e times the
-- scaled entry f of the pivot row; at the pivot's own column minus e times f
abbrev pub eliminated_entry : Fraction → Fraction → Fraction → Bool → Option Fraction
eliminated_entry e x f own =
    if own then option_map negated (product_of e f) else option_and_then (difference_of x) (product_of e f)

-- the pivot row r scaled, 0 where an entry has none
abbrev pub scaled_row : (ℕ → ℕ → Fraction) → ℕ → ℕ → ℕ → Fraction
scaled_row place r c j = unwrap_or (scaled_entry (place r j) (place r c) (j == c)) (whole_fraction (pos 0))

-- what stands at (i, j) after the pivot at (r, c), or none where a number on the way there passes 128 bits
unfoldable pub pivot_place : (ℕ → ℕ → Fraction) → ℕ → ℕ → ℕ → ℕ → Option Fraction
pivot_place place r c i j =
    if i == r
    then scaled_entry (place r j) (place r c) (j == c)
    else eliminated_entry (place i c) (place i j) (scaled_row place r c j) (j == c)

-- the dictionary after the pivot at (r, c): the two labels change places
unfoldable pub pivoted : Dictionary → ℕ → ℕ → Dictionary
pivoted d r c = record {
  place = λ i j. unwrap_or (pivot_place d.place r c i j) (whole_fraction (pos 0));
  row_label = λ i. if i == r then d.column_label c else d.row_label i;
  column_label = λ j. if j == c then d.row_label r else d.column_label j;
}

-- the pivot is possible: a row, a column that is no right side, and an entry other than 0
pub record IsPivot (q : Problem) (d : Dictionary) (r c : ℕ) : Type 0 where
  pub row_in : r ≤ cost_row q
  pub column_in : c < columns q
  pub nonzero : (d.place r c).num ≢ pos 0

-- no place passes 128 bits
pub record IsNarrowPivot (q : Problem) (d : Dictionary) (r c : ℕ) : Type 0 where
  pub possible : IsPivot q d r c
  pub each : (i j : ℕ) → i ≤ cost_row q → j ≤ columns q → IsSome (pivot_place d.place r c i j)

-- row k is taken before row i: the pivot row r first, then the others in their order
abbrev pub turn_of : ℕ → ℕ → ℕ
turn_of r i = if i == r then zero else suc i

-- place (k, l) is taken before place (i, j)
abbrev pub ComesBefore : ℕ → ℕ → ℕ → ℕ → ℕ → Type 0
ComesBefore r k l i j = (turn_of r k < turn_of r i) ⊎ ((k ≡ i) × (l < j))

-- (i, j) is the first place that passes 128 bits
pub record IsFirstWide (rows width : ℕ) (place : ℕ → ℕ → Fraction) (r c i j : ℕ) : Type 0 where
  pub row_in : i < rows
  pub column_in : j < width
  pub wide : pivot_place place r c i j ≡ None
  pub earlier : (k l : ℕ) → k < rows → l < width → ComesBefore r k l i j → IsSome (pivot_place place r c k l)

-- ---- the replay of a list of pivots, each a row and a column

abbrev pub replay : Dictionary → List (ℕ × ℕ) → Dictionary
replay d [] = d
replay d (p ∷ ps) = replay (pivoted d p.0 p.1) ps

-- each pivot is possible where it comes, and narrow
abbrev pub AllNarrow : Problem → Dictionary → List (ℕ × ℕ) → Type 0
AllNarrow q d [] = Unit {0}
AllNarrow q d (p ∷ ps) = IsNarrowPivot q d p.0 p.1 × AllNarrow q (pivoted d p.0 p.1) ps

-- (i, j) is the first place of the dictionary at which the pivot at (r, c) passes 128 bits
abbrev pub FailsFirstAt : Problem → Dictionary → ℕ → ℕ → ℕ → ℕ → Type 0
FailsFirstAt q d r c i j = IsFirstWide (height_of q) (width_of q) d.place r c i j

-- all pivots but the last are narrow, and the last passes 128 bits, first at (row, column)
pub record EndsWide (q : Problem) (pivots : List (ℕ × ℕ)) (row column : ℕ) : Type 0 where
  pub front : List (ℕ × ℕ)
  pub last : ℕ × ℕ
  pub split : pivots ≡ front ++ last ∷ []
  pub narrow : AllNarrow q (opening q) front
  pub possible : IsPivot q (replay (opening q) front) last.0 last.1
  pub wide : FailsFirstAt q (replay (opening q) front) last.0 last.1 row column
