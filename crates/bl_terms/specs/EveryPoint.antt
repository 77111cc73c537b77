-- Trusted for the worked examples alone. Tests that decide the definitions of `Feasible` by trying every
-- point of the box. They are there to check the definitions on small programs; no solver uses them.
use Rattle.std.specs.Prelude.{ℕ, zero, suc, ℤ, pos, ◌+ℤ◌, ◌-ℤ◌, Bool, true, not, ◌&&◌, ◌||◌, List, [], ◌∷◌, length}
use Rattle.std.specs.Prelude.{if◌then◌else◌, nat_eq, int_le, int_lt, unsigned_abs}
use Rattle.std.specs.Bool.{Decides}
use Rattle.std.specs.Ordering.{int_eq}
use Rattle.bl_whole.specs.Sums.{component, dot}
use Rattle.bl_terms.specs.Points.{is_among}
use Rattle.bl_terms.specs.Programs.{Program, columns, row_at, cost_at, value_at, follower_at}
use Rattle.bl_terms.specs.Feasible.{BilevelFeasible, Optimal, IsOnlyOptimum, Infeasible}

-- the test passes at each of the n numbers from x on
abbrev pub all_numbers : ℤ → ℕ → (ℤ → Bool) → Bool
all_numbers x zero test = true
all_numbers x (suc n) test = test x && all_numbers (x +ℤ pos 1) n test

-- the test passes at each place below n
abbrev pub all_below : ℕ → (ℕ → Bool) → Bool
all_below zero test = true
all_below (suc n) test = all_below n test && test n

-- how many numbers there are from lo to hi
abbrev pub count_between : ℤ → ℤ → ℕ
count_between lo hi = if int_le lo hi then unsigned_abs (hi -ℤ lo +ℤ pos 1) else 0

-- the test passes at each list of n numbers, the one at place k from lo k to hi k
abbrev pub all_points : ℕ → (ℕ → ℤ) → (ℕ → ℤ) → (List ℤ → Bool) → Bool
all_points zero lo hi test = test []
all_points (suc n) lo hi test =
    all_numbers (lo 0) (count_between (lo 0) (hi 0))
    (λ x. all_points n (λ k. lo (suc k)) (λ k. hi (suc k)) (λ z. test (x ∷ z)))

-- the test passes at each point of the program's box
abbrev pub all_of_box : Program → (List ℤ → Bool) → Bool
all_of_box p test = all_points (columns p) (component p.lo) (component p.hi) test

-- z lies in the box; z meets the row at place i; z meets all rows, or all rows of the follower
abbrev pub is_in : Program → List ℤ → Bool
is_in p z = nat_eq (length z) (columns p)
    && all_below (columns p)
    (λ k. int_le (component p.lo k) (component z k) && int_le (component z k) (component p.hi k))

abbrev pub meets_row : Program → List ℤ → ℕ → Bool
meets_row p z i = int_le (dot (row_at p.rows i).coef z) (row_at p.rows i).rhs

abbrev pub meets_rows : Program → List ℤ → Bool
meets_rows p z = all_below (length p.rows) (meets_row p z)

abbrev pub meets_lower : Program → List ℤ → Bool
meets_lower p z = all_below (length p.rows) (λ i. not (row_at p.rows i).lower || meets_row p z i)

-- the ranges of the points that agree with z on the leader's columns
abbrev pub low_from : Program → List ℤ → ℕ → ℤ
low_from p z k = if is_among k p.follower then component p.lo k else component z k

abbrev pub high_from : Program → List ℤ → ℕ → ℤ
high_from p z k = if is_among k p.follower then component p.hi k else component z k

-- z is bilevel feasible
abbrev pub is_feasible : Program → List ℤ → Bool
is_feasible p z =
    is_in p z && meets_rows p z
    && all_points (columns p) (low_from p z) (high_from p z)
    (λ z'. not (meets_lower p z') || int_le (follower_at p z) (follower_at p z'))

-- z is bilevel feasible with the value v, and no bilevel feasible point costs less
abbrev pub is_optimal : Program → List ℤ → ℤ → Bool
is_optimal p z v =
    is_feasible p z && int_eq (value_at p z) v
    && all_of_box p (λ z'. not (is_feasible p z') || int_le (cost_at p z) (cost_at p z'))

-- no point is bilevel feasible
abbrev pub is_infeasible : Program → Bool
is_infeasible p = all_of_box p (λ z. not (is_feasible p z))

-- z is bilevel feasible with the value v, no bilevel feasible point costs less, and no other costs as much
abbrev pub is_only_optimum : Program → List ℤ → ℤ → Bool
is_only_optimum p z v =
    is_optimal p z v
    && all_of_box p (λ z'. not (is_feasible p z')
    || (int_lt (cost_at p z) (cost_at p z')
    || all_below (columns p) (λ k. int_eq (component z k) (component z' k))))

-- THE LAW: each test passes exactly where what it tests holds
pub record TestsDecide : Type 0 where
  pub feasible : (p : Program) (z : List ℤ) → Decides (is_feasible p z) (BilevelFeasible p z)
  pub optimal : (p : Program) (z : List ℤ) (v : ℤ) → Decides (is_optimal p z v) (Optimal p z v)
  pub only_optimum : (p : Program) (z : List ℤ) (v : ℤ) → Decides (is_only_optimum p z v) (IsOnlyOptimum p z v)
  pub infeasible : (p : Program) → Decides (is_infeasible p) (Infeasible p)
