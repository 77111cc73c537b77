-- Trusted. What an answer to a bilevel program states: Tahernejad, Ralphs and DeNegre (2020), for bounded integers and
-- an optimistic leader.
-- These definitions speak of all points of the box and know no relaxation, tree or cut.
use Rattle.std.specs.Prelude.{ℤ, ◌≡◌, ◌≤ℤ◌, List}
use Rattle.bl_terms.specs.Programs.{Program, InBox, MeetsRows, MeetsLowerRows, SameLead, cost_at, value_at, follower_at}

-- z lies in the box and meets all rows, and no point of the box with z's values on the leader's columns that
-- meets the follower's rows has a lower follower's cost. Such a point need not meet the leader's rows. Among
-- equal optima of the follower each is allowed
pub record BilevelFeasible (p : Program) (z : List ℤ) : Type 0 where
  pub inside : InBox p z
  pub rows : MeetsRows p z
  pub least : (z' : List ℤ) → InBox p z' → MeetsLowerRows p z' → SameLead p z z' → follower_at p z ≤ℤ follower_at p z'

-- z is bilevel feasible, its value is v in the sense in which the leader's cost was given, and no bilevel feasible
-- point costs less
pub record Optimal (p : Program) (z : List ℤ) (v : ℤ) : Type 0 where
  pub feasible : BilevelFeasible p z
  pub value : value_at p z ≡ v
  pub least : (z' : List ℤ) → BilevelFeasible p z' → cost_at p z ≤ℤ cost_at p z'

-- z is optimal with the value v, and no other point is
pub record IsOnlyOptimum (p : Program) (z : List ℤ) (v : ℤ) : Type 0 where
  pub optimal : Optimal p z v
  pub alone : (z' : List ℤ) → Optimal p z' v → z' ≡ z

-- no point is bilevel feasible
abbrev pub Infeasible : Program → Type 0
Infeasible p = (z : List ℤ) → ¬ BilevelFeasible p z
