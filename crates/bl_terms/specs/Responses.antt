-- Trusted. What the follower can answer to the values of the linking columns, and what is true of its least
-- cost: the second-stage problem of DeNegre and Ralphs (2009), over the linking columns of Tahernejad, Ralphs
-- and DeNegre (2020).
use Rattle.std.specs.Prelude.{ℕ, ℤ, ◌≡◌, ◌<◌, ◌+ℤ◌, ◌≤ℤ◌, ◌↔◌, List, length, slice_index, IsTrue}
use Rattle.bl_whole.specs.Sums.{component, dot}
use Rattle.bl_terms.specs.Points.{values_at}
use Rattle.bl_terms.specs.Programs.{Program, IsProgram, Row, row_at, InBox, MeetsRows, MeetsLowerRows, SameLead}
use Rattle.bl_terms.specs.Programs.{link_of, follower_at}
use Rattle.bl_terms.specs.Feasible.{BilevelFeasible}

-- xs has one number for each of the columns in ks, in its range
pub record InRanges (p : Program) (ks : List ℕ) (xs : List ℤ) : Type 0 where
  pub count : length xs ≡ length ks
  pub least : (j : ℕ) → j < length ks → component p.lo (slice_index ks j) ≤ℤ component xs j
  pub most : (j : ℕ) → j < length ks → component xs j ≤ℤ component p.hi (slice_index ks j)

-- l gives each linking column a value in its range
abbrev pub IsLink : Program → List ℤ → Type 0
IsLink p l = InRanges p p.links l

-- a row's left side with l on the linking columns and y on the follower's columns
abbrev pub lhs_of : Program → Row → List ℤ → List ℤ → ℤ
lhs_of p r l y = dot (values_at r.coef p.links) l +ℤ dot (values_at r.coef p.follower) y

-- y is a response to l: it gives each of the follower's columns a value in its range, and meets each row of
-- the follower with l on the linking columns
pub record IsResponse (p : Program) (l y : List ℤ) : Type 0 where
  pub ranges : InRanges p p.follower y
  pub rows : (i : ℕ) → i < length p.rows → IsTrue (row_at p.rows i).lower
      → lhs_of p (row_at p.rows i) l y ≤ℤ (row_at p.rows i).rhs

-- the follower's cost of a response
abbrev pub response_cost : Program → List ℤ → ℤ
response_cost p y = dot (values_at p.follower_cost p.follower) y

-- y is a response to l of cost v, and no response costs less
pub record IsBest (p : Program) (l y : List ℤ) (v : ℤ) : Type 0 where
  pub response : IsResponse p l y
  pub value : response_cost p y ≡ v
  pub least : (y' : List ℤ) → IsResponse p l y' → v ≤ℤ response_cost p y'

-- an entry for a link: a best response with its cost, or that there is no response
pub data Entry : Type 0 where
  Best : List ℤ → ℤ → Entry
  NoResponse : Entry

-- the entry says the truth of l
abbrev pub IsTrueEntry : Program → List ℤ → Entry → Type 0
IsTrueEntry p l (Best y v) = IsBest p l y v
IsTrueEntry p l NoResponse = (y : List ℤ) → ¬ IsResponse p l y

-- v is the least follower's cost of the points that agree with z on the leader's columns and meet the follower's rows
pub record IsFollowerOptimum (p : Program) (z : List ℤ) (v : ℤ) : Type 0 where
  pub reached : (z' : List ℤ) × InBox p z' × MeetsLowerRows p z' × SameLead p z z' × (follower_at p z' ≡ v)
  pub least : (z' : List ℤ) → InBox p z' → MeetsLowerRows p z' → SameLead p z z' → v ≤ℤ follower_at p z'

-- THE LAWS

-- points with one link have one follower's optimum, whatever their other columns are
abbrev pub OptimumOfLink : Type 0
OptimumOfLink =
    (p : Program) (z z' : List ℤ) (v : ℤ) → IsProgram p → InBox p z → InBox p z' → link_of p z ≡ link_of p z'
    → IsFollowerOptimum p z v → IsFollowerOptimum p z' v

-- where the link's entry is true, a best response's cost is the follower's optimum
abbrev pub EntryIsOptimum : Type 0
EntryIsOptimum =
    (p : Program) (z y : List ℤ) (v : ℤ) → IsProgram p → InBox p z → IsBest p (link_of p z) y v
    → IsFollowerOptimum p z v

-- where the link has no response, no point with that link meets the follower's rows
abbrev pub NoResponseNoPoint : Type 0
NoResponseNoPoint =
    (p : Program) (z : List ℤ) → IsProgram p → InBox p z → IsTrueEntry p (link_of p z) NoResponse → ¬ MeetsLowerRows p z

-- where the link's entry is Best with the cost v, a point that lies in the box and meets the rows is bilevel
-- feasible exactly where its follower's cost is v, and exactly where it is at most v
abbrev pub EntryLaw : Type 0
EntryLaw =
    (p : Program) (z y : List ℤ) (v : ℤ) → IsProgram p → InBox p z → MeetsRows p z
    → IsTrueEntry p (link_of p z) (Best y v)
    → (BilevelFeasible p z ↔ (follower_at p z ≡ v)) × (BilevelFeasible p z ↔ (follower_at p z ≤ℤ v))
