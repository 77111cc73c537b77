-- Trusted. What the indices, points, boxes and lists of a certificate's lines have to be for a model.
use Rattle.std.specs.Prelude.{◌≡◌, ◌⊎◌, ℕ, ◌+◌, ◌<◌, ◌≤◌, ◌≢◌, Bool, false, List, length, All}
use Rattle.std.specs.Prelude.{Contains}
use Rattle.std.specs.Prelude.{ℤ, pos, ◌<ℤ◌, ◌≤ℤ◌, ⊤, Option, Some, None, count_by, slice_index_or}
use Rattle.std.specs.List.{AllAdjacentBelow}
use Rattle.bl_whole.specs.Sums.{component}
use Rattle.bl_limits.specs.declared.TheConstants.{MAX_CUTS}
use Rattle.bl_terms.specs.Points.{Area}
use Rattle.bl_terms.specs.Programs.{Program, columns}
use Rattle.bl_terms.specs.Trees.{CanSplit, high_half, low_half}
use Rattle.bl_certline.specs.declared.line.TightItem.{TightItem}
use Rattle.bl_certline.specs.declared.line.TightItem.TheVariants as items

-- a number names one of n places
abbrev pub IsPlace : ℕ → ℤ → Type 0
IsPlace n i = (pos 0 ≤ℤ i) × (i <ℤ pos n)

-- the indices of pairs name places below n
abbrev pub AreBelow : ℕ → List (ℤ × ℤ) → Type 0
AreBelow n ps = All (λ p. IsPlace n p.0) ps

-- at the first place where the numbers differ, the first list has the lower one
pub record IsLower (xs ys : List ℤ) : Type 0 where
  pub place : ℕ
  pub within : place < length xs
  pub within_other : place < length ys
  pub lower : component xs place <ℤ component ys place
  pub before : (k : ℕ) → k < place → component xs k ≡ component ys k

-- a link is above the one before it, where there is one
abbrev pub IsAbove : Option (List ℤ) → List ℤ → Type 0
IsAbove None link = ⊤
IsAbove (Some last) link = IsLower last link

-- the place splits the box at a column that the number names
abbrev pub SplitsAt : Area → ℤ → ℤ → Type 0
SplitsAt a column at = (k : ℕ) × (column ≡ pos k) × CanSplit a k at

-- the place splits the box at a column that the number names, and these are its halves
abbrev pub AreHalves : Area → ℤ → ℤ → Area → Area → Type 0
AreHalves a column at low high =
    (k : ℕ) × (column ≡ pos k) × CanSplit a k at × (low ≡ low_half a k at) × (high ≡ high_half a k at)

-- the number names a column of the follower
abbrev pub IsFollowers : Program → ℤ → Type 0
IsFollowers p column = (k : ℕ) × (column ≡ pos k) × Contains p.follower k

-- both sides for a column
abbrev pub side_at : List (ℤ × ℤ) → ℕ → ℤ × ℤ
side_at sides k = slice_index_or sides k (pos 0, pos 0)

-- both sides for each column, of a box within the model's that isn't empty
pub record IsPart (p : Program) (sides : List (ℤ × ℤ)) : Type 0 where
  pub count : length sides ≡ columns p
  pub least : (k : ℕ) → k < columns p → component p.lo k ≤ℤ (side_at sides k).0
  pub ordered : (k : ℕ) → k < columns p → (side_at sides k).0 ≤ℤ (side_at sides k).1
  pub most : (k : ℕ) → k < columns p → (side_at sides k).1 ≤ℤ component p.hi k

-- what a tight item names is there, where so many cuts stand before this one
abbrev pub IsThere : Program → ℕ → TightItem → Type 0
IsThere p earlier (items.Row place) = IsPlace (length p.rows) place
IsThere p earlier (items.Upper place) = IsPlace (columns p) place
IsThere p earlier (items.Lower place) = IsPlace (columns p) place
IsThere p earlier (items.Cut place) = IsPlace earlier place

-- an item's kind and its place there
abbrev pub kind_of : TightItem → ℕ
kind_of (items.Row place) = 0
kind_of (items.Upper place) = 1
kind_of (items.Lower place) = 2
kind_of (items.Cut place) = 3

abbrev pub place_of : TightItem → ℤ
place_of (items.Row place) = place
place_of (items.Upper place) = place
place_of (items.Lower place) = place
place_of (items.Cut place) = place

-- rows stand before upper sides, these before lower sides, and these before cuts; places rise in each kind
abbrev pub IsBefore : TightItem → TightItem → Type 0
IsBefore x y = (kind_of x < kind_of y) ⊎ ((kind_of x ≡ kind_of y) × (place_of x <ℤ place_of y))

abbrev pub AreInOrder : List TightItem → Type 0
AreInOrder tight = AllAdjacentBelow IsBefore tight (length tight)

-- the numbers rise, each to the next
abbrev pub Rise : List ℤ → Type 0
Rise xs = AllAdjacentBelow (λ x y. x <ℤ y) xs (length xs)

-- the follower's rows
abbrev pub lower_count : Program → ℕ
lower_count p = count_by (λ r. r.lower) p.rows

-- A leaf cites few enough of so many cuts, in rising order, and has multipliers of the model's rows, of the value row,
-- where it uses it, and of the cuts that it cites, in this order.
pub record IsLeaf (p : Program) (cuts : ℕ) (value_row : Bool) (cited : List ℤ) (mult : List (ℤ × ℤ)) : Type 0 where
  pub few : length cited ≤ MAX_CUTS
  pub there : All (IsPlace cuts) cited
  pub rising : Rise cited
  pub rows : AreBelow (length p.rows + 1 + length cited) mult
  pub value : value_row ≡ false → All (λ m. m.0 ≢ pos (length p.rows)) mult
