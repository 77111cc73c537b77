-- Internal. The best response so far, what becomes of a box, and the search under way.
use Rattle.std.specs.Prelude.{◌≡◌, ◌+◌, ◌*◌, ◌≤◌, ◌<◌, ◌^◌, ℕ, ℤ, pos, ◌+ℤ◌, unsigned_abs, List, length, true}
use Rattle.std.specs.Prelude.{Option, Some, None, reverse, ◌⊎◌}
use Rattle.bl_terms.specs.Points.{Area}
use Rattle.bl_terms.specs.Bounds.{Problem, Proves, over}
use Rattle.bl_terms.specs.Trees.{point_count, low_half, high_half}
use Rattle.bl_licence.specs.declared.why.Why.{Why}
use Rattle.bl_licence.specs.Why.{IsLicence}
use Rattle.bl_fproof.specs.Entries.{IsPointOfCost}
use Rattle.bl_follower_tree.specs.Growth.{Grown, IsGrown, IsLowered, split_by, left_by}
use Rattle.bl_follower.specs.declared.response.Response.{Response}
use Rattle.bl_follower.specs.declared.work.Worked.{Worked}
use Rattle.bl_follower.specs.declared.work.Worked.TheVariants.{Shut, Stuck}

abbrev pub cutoff_of : Option Response → Option ℤ
cutoff_of None = None
cutoff_of (Some r) = Some r.value

abbrev pub IsBestSoFar : Problem → Option Response → Type 0
IsBestSoFar q None = Unit {0}
IsBestSoFar q (Some r) = IsPointOfCost q r.point r.value

-- the new one is a point of its cost, which is no higher than the old one's
pub record IsLowerBest (q : Problem) (old new : Option Response) : Type 0 where
  pub best : IsBestSoFar q new
  pub lowered : IsLowered (cutoff_of old) (cutoff_of new)

-- how far a cutoff can fall
abbrev pub height : Option ℤ → ℕ
height None = 2 ^ 64
height (Some v) = unsigned_abs (v +ℤ pos (2 ^ 63))

-- the box a is closed for the cutoff, or licensed to be split
abbrev pub IsWorked : Problem → Area → Option ℤ → Worked → Type 0
IsWorked q a u (Shut w) = Proves (over q a) u w
IsWorked q a u (Stuck why) = IsLicence (over q a) u why

-- the tree is grown with the best response's cost for its cutoff, and these boxes are still to be worked on; it stays
-- within the budget, and where a leaf was left open, two more nodes would pass it, which no tree of all points does
pub record IsUnderWay (q : Problem) (budget : ℕ) (found : Option Response) (g : Grown) (boxes : List Area)
    : Type 0 where
  pub grown : IsGrown q (cutoff_of found) g boxes
  pub best : IsBestSoFar q found
  pub within : length g.nodes + length boxes ≤ budget
  pub full : g.left ≡ true → (budget ≤ length g.nodes + length boxes + 1) × (budget + 2 ≤ 2 * point_count q.area)

-- the stuck box a is split at the place, or left open where two more nodes would pass the budget
abbrev pub IsSplitOrLeft : ℕ → Area → ℕ → ℤ → Option ℤ → Why → Grown → Grown → Type 0
IsSplitOrLeft budget a j v u why old new =
    ((length old.nodes + length old.stack + 3 ≤ budget)
    × (new ≡ split_by old j v (low_half a j v, high_half a j v) u why))
    ⊎ ((budget < length old.nodes + length old.stack + 3) × (new ≡ left_by old u why))

-- the search goes on with one node more
pub record IsOneMore (q : Problem) (budget : ℕ) (found : Option Response) (old new : Grown) : Type 0 where
  pub goes_on : IsUnderWay q budget found new (reverse new.stack)
  pub longer : length new.nodes ≡ length old.nodes + 1
