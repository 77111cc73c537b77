-- Weak duality.
use Rattle.std.proofs.Common.{◌≡◌, ℕ, refl, sym, ◌∙◌, arith, Bool, true, false, cond, List, length}
use Rattle.std.specs.Prelude.{ℤ, pos, ◌+ℤ◌, ◌-ℤ◌, ◌*ℤ◌, ◌≤ℤ◌, int_lt, Option, Some, None}
use Rattle.std.proofs.Math.IntN.{zero-*ℤ, *ℤ_comm}
use Rattle.std.proofs.lemmas.Int.{ints}
use Rattle.std.specs.Int.Signed.{≤ℤ_refl}
use Rattle.bl_whole.specs.Sums.{component, sum_below, dot}
use Rattle.bl_whole.proofs.Products.{*ℤ_assoc, +ℤ-*ℤ, mul_le_left, mul_le_left_neg, lt_of_mul_lt}
use Rattle.bl_whole.proofs.SumLemmas.{sum_below-agree, sum_below-add, sum_below-scale, sum_below-exchange}
use Rattle.bl_whole.proofs.SumLemmas.{sum_below_monotone}
use Rattle.bl_terms.specs.Points.{Area, IsArea, InArea}
use Rattle.bl_terms.specs.Bounds.{Problem, linear_at, IsPoint, IsProblem, Multipliers, reduced_cost, least_product}
use Rattle.bl_terms.specs.Bounds.{least_term, rhs_sum, dual_bound, Proves, LeastProduct, WeakDuality, NoPoint}
use Rattle.bl_terms.specs.Bounds.{NoCutoffNoPoint, over, TreeOfProofs, TreeOfRefusals}
use Rattle.bl_terms.specs.Trees.{Anything}
use Rattle.bl_terms.proofs.TreeLemmas.{tree_shows}

least_of_range : (a lo hi x : ℤ) → lo ≤ℤ x → x ≤ℤ hi → least_product a lo hi ≤ℤ (a *ℤ x)
least_of_range a lo hi x low high = by (int_lt a (pos 0)) refl
  where
    by : (t : Bool) → int_lt a (pos 0) ≡ t → cond t (a *ℤ hi) (a *ℤ lo) ≤ℤ (a *ℤ x)
    by true e = mul_le_left_neg a (omega (arith, ints)) high
    by false e = mul_le_left a (omega (arith, ints)) low

reached_in_range : (a lo hi : ℤ) → lo ≤ℤ hi → (x : ℤ) × (lo ≤ℤ x) × (x ≤ℤ hi) × (least_product a lo hi ≡ a *ℤ x)
reached_in_range a lo hi h = by (int_lt a (pos 0))
  where
    by : (t : Bool) → (x : ℤ) × (lo ≤ℤ x) × (x ≤ℤ hi) × (cond t (a *ℤ hi) (a *ℤ lo) ≡ a *ℤ x)
    by true = (hi, h, ≤ℤ_refl hi, refl)
    by false = (lo, ≤ℤ_refl lo, h, refl)

pub least_product_is_least : LeastProduct
least_product_is_least a lo hi h = (least_of_range a lo hi, reached_in_range a lo hi h)

-- one column's term: the weight's parts are multiplied by the column's number one by one
pub term : (q : Problem) (w : Multipliers) (z : List ℤ) (j : ℕ) → reduced_cost q w j *ℤ component z j
    ≡ w.den *ℤ (component q.cost j *ℤ component z j)
    +ℤ sum_below (length q.rows)
    (λ i. component w.mult i *ℤ (component (linear_at q.rows i).coef j *ℤ component z j))
term q w z j =
    let m = length q.rows in
    let a : ℕ → ℤ = λ i. component w.mult i *ℤ component (linear_at q.rows i).coef j in
    let parts = +ℤ-*ℤ (w.den *ℤ component q.cost j) (sum_below m a) (component z j) in
    let cost = *ℤ_assoc w.den (component q.cost j) (component z j) in
    let turned = *ℤ_comm (sum_below m a) (component z j) in
    let scaled = sum_below-scale m (component z j) a in
    let each : sum_below m (λ i. component z j *ℤ a i)
    ≡ sum_below m (λ i. component w.mult i *ℤ (component (linear_at q.rows i).coef j *ℤ component z j)) =
    sum_below-agree m (λ i. component z j *ℤ a i)
    (λ i. component w.mult i *ℤ (component (linear_at q.rows i).coef j *ℤ component z j))
    (λ i b. *ℤ_comm (component z j) (a i)
    ∙ *ℤ_assoc (component w.mult i) (component (linear_at q.rows i).coef j) (component z j)) in
    omega (arith, ints)

-- the weighted rows and the weighted cost at z, column by column
pub weighted : (q : Problem) (w : Multipliers) (z : List ℤ) → IsProblem q
    → sum_below (length q.area.lo) (λ j. reduced_cost q w j *ℤ component z j)
    ≡ w.den *ℤ dot q.cost z +ℤ sum_below (length q.rows) (λ i. component w.mult i *ℤ dot (linear_at q.rows i).coef z)
weighted q w z g =
    let n = length q.area.lo in
    let m = length q.rows in
    let a : ℕ → ℕ → ℤ = λ i j. component w.mult i *ℤ (component (linear_at q.rows i).coef j *ℤ component z j) in
    let each : sum_below n (λ j. reduced_cost q w j *ℤ component z j)
    ≡ sum_below n (λ j. w.den *ℤ (component q.cost j *ℤ component z j) +ℤ sum_below m (λ i. a i j)) =
    sum_below-agree n (λ j. reduced_cost q w j *ℤ component z j)
    (λ j. w.den *ℤ (component q.cost j *ℤ component z j) +ℤ sum_below m (λ i. a i j)) (λ j b. term q w z j) in
    let added = sum_below-add n (λ j. w.den *ℤ (component q.cost j *ℤ component z j)) (λ j. sum_below m (λ i. a i j)) in
    let cost : sum_below n (λ j. w.den *ℤ (component q.cost j *ℤ component z j)) ≡ w.den *ℤ dot q.cost z =
    rw (← g.cost_columns) (sum_below-scale (length q.cost) w.den (λ j. component q.cost j *ℤ component z j)) in
    let turned : sum_below n (λ j. sum_below m (λ i. a i j)) ≡ sum_below m (λ i. sum_below n (λ j. a i j)) =
    sum_below-exchange n m (λ j i. a i j) in
    let rows : sum_below m (λ i. sum_below n (λ j. a i j))
    ≡ sum_below m (λ i. component w.mult i *ℤ dot (linear_at q.rows i).coef z) =
    sum_below-agree m (λ i. sum_below n (λ j. a i j)) (λ i. component w.mult i *ℤ dot (linear_at q.rows i).coef z)
    (λ i b. let c = g.row_columns i b in
    rw (← c) (sum_below-scale (length (linear_at q.rows i).coef) (component w.mult i)
    (λ j. component (linear_at q.rows i).coef j *ℤ component z j))) in
    omega (arith, ints)

-- the bound is at most the weighted cost of each point of the box that meets the rows
bound_below_cost : (q : Problem) (u : Option ℤ) (w : Multipliers) (z : List ℤ) → IsProblem q → Proves q u w
    → IsPoint q z → dual_bound q w ≤ℤ (w.den *ℤ dot q.cost z)
bound_below_cost q u w z g proof point =
    let m = length q.rows in
    let least : sum_below (length q.area.lo) (least_term q w) ≤ℤ sum_below (length q.area.lo)
    (λ j. reduced_cost q w j *ℤ component z j) =
    sum_below_monotone (length q.area.lo) (least_term q w) (λ j. reduced_cost q w j *ℤ component z j)
    (λ j b. least_of_range (reduced_cost q w j) (component q.area.lo j) (component q.area.hi j) (component z j)
    (point.inside.least j b) (point.inside.most j b)) in
    let rights : sum_below m (λ i. component w.mult i *ℤ dot (linear_at q.rows i).coef z) ≤ℤ rhs_sum q w =
    sum_below_monotone m (λ i. component w.mult i *ℤ dot (linear_at q.rows i).coef z)
    (λ i. component w.mult i *ℤ (linear_at q.rows i).rhs)
    (λ i b. mul_le_left (component w.mult i) (proof.multipliers.least i (rw proof.rows b)) (point.rows i b).holds) in
    let e = weighted q w z g in
    omega (arith, ints)

pub weak_duality : WeakDuality
weak_duality q u w z g proof point =
    let h = bound_below_cost q (Some u) w z g proof point in
    let b = proof.beyond in
    let l = lt_of_mul_lt {a = u -ℤ pos 1} {b = dot q.cost z} w.den proof.multipliers.den_least (omega (arith, ints)) in
    omega (arith, ints)

pub no_point : NoPoint
no_point q (Some u) w z g proof zero point =
    let h = bound_below_cost q (Some u) w z g proof point in
    let b = proof.beyond in
    let e : w.den *ℤ dot q.cost z ≡ pos 0 = rw zero (zero-*ℤ (dot q.cost z)) in
    let f : w.den *ℤ (u -ℤ pos 1) ≡ pos 0 = rw zero (zero-*ℤ (u -ℤ pos 1)) in
    omega (arith, ints)
no_point q None w z g proof zero point =
    let h = bound_below_cost q None w z g proof point in
    let b = proof.beyond in
    let e : w.den *ℤ dot q.cost z ≡ pos 0 = rw zero (zero-*ℤ (dot q.cost z)) in
    omega (arith, ints)

pub no_cutoff_no_point : NoCutoffNoPoint
no_cutoff_no_point q w z g proof point = no_point q None w z g proof (proof.free refl) point

-- a leaf's box that has a point has as many columns as the whole box
over_problem : (q : Problem) (a : Area) (z : List ℤ) → IsProblem q → IsArea a → InArea a z → InArea q.area z
    → IsProblem (over q a)
over_problem q a z g area inside whole =
    let n : length q.area.lo ≡ length a.lo = sym whole.columns ∙ inside.columns in
    record { box = area; cost_columns = g.cost_columns ∙ n; row_columns = λ i b. g.row_columns i b ∙ n }

pub tree_of_proofs : TreeOfProofs
tree_of_proofs q u nodes z g tree point =
    tree_shows Anything (λ a w. Proves (over q a) (Some u) w) (λ x. IsPoint q x → u ≤ℤ dot q.cost x)
    (λ a w x area closed inside p. weak_duality (over q a) u w x (over_problem q a x g area inside p.inside) closed
    (record { inside = inside; rows = p.rows }))
    nodes q.area g.box tree z point.inside point

pub tree_of_refusals : TreeOfRefusals
tree_of_refusals q nodes z g tree point =
    tree_shows Anything (λ a w. Proves (over q a) None w) (λ x. IsPoint q x → ⊥)
    (λ a w x area closed inside p. no_cutoff_no_point (over q a) w x (over_problem q a x g area inside p.inside) closed
    (record { inside = inside; rows = p.rows }))
    nodes q.area g.box tree z point.inside point
