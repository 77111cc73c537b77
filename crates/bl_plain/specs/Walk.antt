-- Trusted: `IsAnswer`. Internal: the rest. What a walk over the points of a box finds.
use Rattle.std.specs.Prelude.{◌≡◌, ◌⊎◌, ℕ, List, length, ℤ, ◌≤ℤ◌, Option, None, Some, Contains, IfSome, IsSomeAnd, refl}
use Rattle.std.specs.Int.{int_min}
use Rattle.std.specs.Option.{option_map}
use Rattle.std.specs.Coded.{Coded, code_by, coded×, coded_list, coded_ℤ, coded_option}
use Rattle.bl_whole.specs.Sums.{component}
use Rattle.bl_terms.specs.Programs.{Program, MeetsRows, MeetsLowerRows, cost_at, value_at, follower_at}
use Rattle.bl_terms.specs.Feasible.{Optimal, Infeasible}

-- z' differs from z on these columns alone, and there it lies in the ranges
pub record Varies (p : Program) (columns : List ℕ) (z z' : List ℤ) : Type 0 where
  pub count : length z' ≡ length z
  pub others : (k : ℕ) → ¬ Contains columns k → component z' k ≡ component z k
  pub least : (k : ℕ) → Contains columns k → component p.lo k ≤ℤ component z' k
  pub most : (k : ℕ) → Contains columns k → component z' k ≤ℤ component p.hi k

-- r is the least follower's cost among the points that vary z on these columns and meet the follower's rows, and None
-- where there is none
pub record IsLeastCost (p : Program) (columns : List ℕ) (z : List ℤ) (r : Option ℤ) : Type 0 where
  pub reached : IfSome r
      (λ least. (z' : List ℤ) × Varies p columns z z' × MeetsLowerRows p z' × (follower_at p z' ≡ least))
  pub bound : (z' : List ℤ) → Varies p columns z z' → MeetsLowerRows p z'
      → IsSomeAnd r (λ least. least ≤ℤ follower_at p z')

-- the lesser of two costs, either of which may be missing
abbrev pub lesser : Option ℤ → Option ℤ → Option ℤ
lesser None b = b
lesser (Some a) None = Some a
lesser (Some a) (Some b) = Some (int_min a b)

-- the best point so far with its cost to the leader, and no cost where there is none
pub record Best : Type 0 where
  pub point : List ℤ
  pub cost : Option ℤ

abbrev pub best_code : Coded Best
best_code =
    code_by (List ℤ × Option ℤ) (coded× (coded_list coded_ℤ) (coded_option coded_ℤ)) (λ b. (b.point, b.cost))
    (λ p. record { point = p.0; cost = p.1 }) (λ _. refl)

-- new is the best of old and of the points in S, and old where none is better
pub record Improves (p : Program) (S : List ℤ → Type 0) (old new : Best) : Type 0 where
  pub source : (new ≡ old) ⊎ (S new.point × (new.cost ≡ Some (cost_at p new.point)))
  pub kept : IfSome old.cost (λ before. IsSomeAnd new.cost (λ now. now ≤ℤ before))
  pub bound : (z : List ℤ) → S z → IsSomeAnd new.cost (λ now. now ≤ℤ cost_at p z)

-- the points that vary z on these columns and have T
abbrev pub Among : Program → List ℕ → List ℤ → (List ℤ → Type 0) → List ℤ → Type 0
Among p columns z T z' = Varies p columns z z' × T z'

-- z meets all rows and costs the follower this much
pub record AnswersAt (p : Program) (least : ℤ) (z : List ℤ) : Type 0 where
  pub rows : MeetsRows p z
  pub cost : follower_at p z ≡ least

-- a point with its cost to the leader
pub record Costed : Type 0 where
  pub point : List ℤ
  pub cost : ℤ

abbrev pub costed_code : Coded Costed
costed_code = code_by (List ℤ × ℤ) (coded× (coded_list coded_ℤ) coded_ℤ) (λ b. (b.point, b.cost))
    (λ p. record { point = p.0; cost = p.1 }) (λ _. refl)

-- the best point, where there is one
abbrev pub optimum_of : Best → Option Costed
optimum_of best = option_map (λ cost. record { point = best.point; cost = cost }) best.cost

-- the point is optimal, at that cost; without one no point is bilevel feasible
abbrev pub IsAnswer : Program → Option Costed → Type 0
IsAnswer p None = Infeasible p
IsAnswer p (Some best) = Optimal p best.point (value_at p best.point) × (best.cost ≡ cost_at p best.point)
