-- Trusted. Proofs that the points of a box cost at least so much, or that no point of it meets the rows: weak
-- duality of linear programs with bounded columns, and Farkas (1902) where the cost has no weight.
use Rattle.std.specs.Prelude.{ℕ, ℤ, pos, ◌≡◌, ◌^◌, ◌<◌, ◌≤◌, ◌+ℤ◌, ◌-ℤ◌, ◌*ℤ◌, ◌≤ℤ◌, ◌<ℤ◌, List, [], ◌∷◌, length, map}
use Rattle.std.specs.Prelude.{slice_index_or, Option, Some, None, if◌then◌else◌, int_lt, ◌+◌, ◌*◌, FitsSigned}
use Rattle.std.specs.Int.{w64, w128}
use Rattle.bl_whole.specs.Sums.{component, sum_below, dot}
use Rattle.bl_whole.specs.Within.{IsWithin, AreWithin}
use Rattle.bl_limits.specs.declared.TheConstants.{MAX_COLUMNS, MAX_PROBLEM_ROWS, MAX_PROBLEM_COEFFICIENT}
use Rattle.bl_limits.specs.declared.TheConstants.{MAX_PROBLEM_RHS, MAX_NUMBER, MAX_PROOF_NUMBER}
use Rattle.bl_terms.specs.Points.{Area, IsArea, InArea, Linear, Meets}
use Rattle.bl_terms.specs.Programs.{Program, inequality, root}
use Rattle.bl_terms.specs.Trees.{BareNode, Anything, Covers}

-- a problem: rows coef · z <= rhs, a cost to be minimised, and a box
pub record Problem : Type 0 where
  pub rows : List Linear
  pub cost : List ℤ
  pub area : Area

-- the row past the end, and the row at a place
abbrev pub no_linear : Linear
no_linear = record { coef = []; rhs = pos 0 }

abbrev pub linear_at : List Linear → ℕ → Linear
linear_at rows i = slice_index_or rows i no_linear

-- z lies in the box and meets every row
pub record IsPoint (q : Problem) (z : List ℤ) : Type 0 where
  pub inside : InArea q.area z
  pub rows : (i : ℕ) → i < length q.rows → Meets (linear_at q.rows i) z

-- every list has one number for each column, and no range is empty
pub record IsProblem (q : Problem) : Type 0 where
  pub box : IsArea q.area
  pub cost_columns : length q.cost ≡ length q.area.lo
  pub row_columns : (i : ℕ) → i < length q.rows → length (linear_at q.rows i).coef ≡ length q.area.lo

-- the problem fits: few enough columns and rows, and numbers that are small enough for exact sums of 128 bits
pub record Fits (q : Problem) : Type 0 where
  pub shape : IsProblem q
  pub few_columns : length q.area.lo ≤ MAX_COLUMNS
  pub few_rows : length q.rows ≤ MAX_PROBLEM_ROWS
  pub coefs : (i : ℕ) → i < length q.rows → AreWithin MAX_PROBLEM_COEFFICIENT (linear_at q.rows i).coef
  pub rhs : (i : ℕ) → i < length q.rows → IsWithin MAX_PROBLEM_RHS (linear_at q.rows i).rhs
  pub costs : AreWithin MAX_NUMBER q.cost
  pub lower_bounds : AreWithin MAX_NUMBER q.area.lo
  pub upper_bounds : AreWithin MAX_NUMBER q.area.hi

-- a program's rows, leader's cost and box, without the follower: its linear relaxation over whole numbers
abbrev pub relaxation : Program → Problem
relaxation p = record { rows = map inequality p.rows; cost = p.cost; area = root p }

-- dual multipliers: a denominator for the cost, and a multiplier for each row
pub record Multipliers : Type 0 where
  pub den : ℤ
  pub mult : List ℤ

-- the reduced cost of column j: den · c_j + sum over the rows of mult_i · a_ij
abbrev pub reduced_cost : Problem → Multipliers → ℕ → ℤ
reduced_cost q w j =
    w.den *ℤ component q.cost j
    +ℤ sum_below (length q.rows) (λ i. component w.mult i *ℤ component (linear_at q.rows i).coef j)

-- the least value of a · x for x from lo to hi
abbrev pub least_product : ℤ → ℤ → ℤ → ℤ
least_product a lo hi = if int_lt a (pos 0) then a *ℤ hi else a *ℤ lo

-- the least value of column j's term
abbrev pub least_term : Problem → Multipliers → ℕ → ℤ
least_term q w j = least_product (reduced_cost q w j) (component q.area.lo j) (component q.area.hi j)

-- the sum of mult_i · b_i
abbrev pub rhs_sum : Problem → Multipliers → ℤ
rhs_sum q w = sum_below (length q.rows) (λ i. component w.mult i *ℤ (linear_at q.rows i).rhs)

-- the bound that the multipliers give: the least terms' sum less the right-hand sides'
abbrev pub dual_bound : Problem → Multipliers → ℤ
dual_bound q w = sum_below (length q.area.lo) (least_term q w) -ℤ rhs_sum q w

-- what the bound has to pass: den · (u - 1) with the cutoff u, 0 without
abbrev pub target_of : Option ℤ → Multipliers → ℤ
target_of (Some u) w = w.den *ℤ (u -ℤ pos 1)
target_of None w = pos 0

-- the denominator and the multipliers aren't negative, and are small enough
pub record AreMultipliers (w : Multipliers) : Type 0 where
  pub den_least : pos 0 ≤ℤ w.den
  pub den_most : w.den ≤ℤ MAX_PROOF_NUMBER
  pub least : (i : ℕ) → i < length w.mult → pos 0 ≤ℤ component w.mult i
  pub most : (i : ℕ) → i < length w.mult → component w.mult i ≤ℤ MAX_PROOF_NUMBER

-- the multipliers prove the cutoff u, or without a cutoff that the box has no point that meets the rows
pub record Proves (q : Problem) (u : Option ℤ) (w : Multipliers) : Type 0 where
  pub rows : length w.mult ≡ length q.rows
  pub multipliers : AreMultipliers w
  pub free : u ≡ None → w.den ≡ pos 0
  pub beyond : target_of u w <ℤ dual_bound q w

-- the problem over another box
abbrev pub over : Problem → Area → Problem
over q a = record q { area = a }

-- a tree over the problem's box, each leaf of which has a proof over its box
abbrev pub ProvesByParts : Problem → Option ℤ → List (BareNode Multipliers) → Type 0
ProvesByParts q u nodes = Covers Anything (λ a w. Proves (over q a) u w) nodes (q.area ∷ [])

-- THE LAWS

-- the least product is at most every product of the range, and a number of the range reaches it
abbrev pub LeastProduct : Type 0
LeastProduct =
    (a lo hi : ℤ) → lo ≤ℤ hi
    → ((x : ℤ) → lo ≤ℤ x → x ≤ℤ hi → least_product a lo hi ≤ℤ (a *ℤ x))
    × ((x : ℤ) × (lo ≤ℤ x) × (x ≤ℤ hi) × (least_product a lo hi ≡ a *ℤ x))

-- weak duality: every point of the box that meets the rows costs at least the proved cutoff
abbrev pub WeakDuality : Type 0
WeakDuality = (q : Problem) (u : ℤ) (w : Multipliers) (z : List ℤ) → IsProblem q → Proves q (Some u) w → IsPoint q z
    → u ≤ℤ dot q.cost z

-- a proof whose denominator is 0 shows that no point of the box meets the rows
abbrev pub NoPoint : Type 0
NoPoint = (q : Problem) (u : Option ℤ) (w : Multipliers) (z : List ℤ) → IsProblem q → Proves q u w → w.den ≡ pos 0
    → ¬ IsPoint q z

-- so does any proof without a cutoff
abbrev pub NoCutoffNoPoint : Type 0
NoCutoffNoPoint = (q : Problem) (w : Multipliers) (z : List ℤ) → IsProblem q → Proves q None w → ¬ IsPoint q z

-- a tree of proofs bounds its box: every point of it that meets the rows costs at least the cutoff
abbrev pub TreeOfProofs : Type 0
TreeOfProofs =
    (q : Problem) (u : ℤ) (nodes : List (BareNode Multipliers)) (z : List ℤ)
    → IsProblem q → ProvesByParts q (Some u) nodes → IsPoint q z → u ≤ℤ dot q.cost z

-- and a tree of proofs without a cutoff shows that no point of the box meets the rows
abbrev pub TreeOfRefusals : Type 0
TreeOfRefusals = (q : Problem) (nodes : List (BareNode Multipliers)) (z : List ℤ) → IsProblem q
    → ProvesByParts q None nodes → ¬ IsPoint q z

-- the size of a reduced cost where the problem fits: 465 · 2^86 + 10^7 · 2^50
abbrev pub reduced_cost_size : ℕ
reduced_cost_size = MAX_PROBLEM_ROWS * (2 ^ 50 * MAX_PROBLEM_COEFFICIENT) + 2 ^ 50 * MAX_NUMBER

-- where the problem fits and the multipliers are from 0 to 2^50, every sum of a bound proof stays below
-- 2^127, and so does each product, which is one of its terms: the first rows' part of a reduced cost, the
-- reduced cost, each side's product, the first columns' sum of least terms, the first rows' sum of right-hand
-- sides, their difference, and den · (u - 1) for a cutoff of 64 bits
pub record SumsFit (q : Problem) (w : Multipliers) : Type 0 where
  pub rows_part : (j m : ℕ) → m ≤ length q.rows
      → FitsSigned w128 (sum_below m (λ i. component w.mult i *ℤ component (linear_at q.rows i).coef j))
  pub reduced : (j : ℕ) → FitsSigned w128 (reduced_cost q w j)
  pub low_product : (j : ℕ) → FitsSigned w128 (reduced_cost q w j *ℤ component q.area.lo j)
  pub high_product : (j : ℕ) → FitsSigned w128 (reduced_cost q w j *ℤ component q.area.hi j)
  pub least_part : (n : ℕ) → n ≤ length q.area.lo → FitsSigned w128 (sum_below n (least_term q w))
  pub rhs_part : (m : ℕ) → m ≤ length q.rows
      → FitsSigned w128 (sum_below m (λ i. component w.mult i *ℤ (linear_at q.rows i).rhs))
  pub bound : FitsSigned w128 (dual_bound q w)
  pub target : (u : ℤ) → FitsSigned w64 u → FitsSigned w128 (u -ℤ pos 1) × FitsSigned w128 (target_of (Some u) w)

-- so no check has an answer of width
abbrev pub BoundSumsFit : Type 0
BoundSumsFit = (q : Problem) (w : Multipliers) → Fits q → AreMultipliers w → length w.mult ≡ length q.rows → SumsFit q w
