-- Internal. The widest column so far.
use Rattle.std.specs.Prelude.{◌≡◌, ◌⊎◌, ◌<◌, ℕ, ℤ, ◌≤ℤ◌, ◌<ℤ◌, List, slice_index, Option, Some, None, MatchOption}
use Rattle.bl_whole.specs.Sums.{component}
use Rattle.bl_terms.specs.Points.{Area}
use Rattle.bl_terms.specs.Trees.{CanSplit}
use Rattle.bl_place.specs.declared.width.Wide.{Wide}

-- the place lies in a range of this column that has a number above it
pub record IsPlaceOf (k : ℕ) (lo hi : ℤ) (w : Wide) : Type 0 where
  pub column : w.place.column ≡ k
  pub least : lo ≤ℤ w.place.at
  pub below : w.place.at <ℤ hi

-- the wider one of what was best and a further column; none where there was none and the column has but one number
abbrev pub IsWider : Option Wide → ℕ → ℤ → ℤ → Option Wide → Type 0
IsWider best column lo hi None = (best ≡ None) × (lo ≡ hi)
IsWider best column lo hi (Some w) = (best ≡ Some w) ⊎ IsPlaceOf column lo hi w

-- the place splits the box, or there is none and the first n of the columns have but one number each
abbrev pub IsWidestOf : Area → List ℕ → ℕ → Option Wide → Type 0
IsWidestOf a ks n best =
    MatchOption best
    ((j : ℕ) → j < n → component a.lo (slice_index ks j) ≡ component a.hi (slice_index ks j))
    (λ w. CanSplit a w.place.column w.place.at)

abbrev pub IsWidestBelow : Area → ℕ → Option Wide → Type 0
IsWidestBelow a n best =
    MatchOption best ((j : ℕ) → j < n → component a.lo j ≡ component a.hi j) (λ w. CanSplit a w.place.column w.place.at)
