-- The values that a whole point gives the variables: they solve the opening dictionary.
use Rattle.std.proofs.Common.{◌≡◌, ◌≢◌, ℕ, ◌+◌, ◌-◌, ◌<◌, ◌≤◌, Bool, true, false, cond, ℤ, pos, negsuc, neg_ℤ}
use Rattle.std.proofs.Common.{◌+ℤ◌, ◌-ℤ◌, ◌*ℤ◌, ◌≤ℤ◌, unsigned_abs, List, length, map, inl, inr, refl, sym, ap, ◌∙◌}
use Rattle.std.proofs.Common.{subst, arith}
use Rattle.std.specs.Prelude.{int_lt, nat_lt, if◌then◌else◌}
use Rattle.std.specs.List.{range_with_len}
use Rattle.std.proofs.Math.IntN.{zero-*ℤ}
use Rattle.std.proofs.lemmas.Bool.{cases_lt, cond-true, cond-false, lt-ltb, le-ltb}
use Rattle.std.proofs.lemmas.Int.{ints}
use Rattle.std.proofs.lemmas.List.{get_or_past}
use Rattle.std.proofs.lemmas.List.FromFn.{length-map-range_with_len, get_or-map-range_with_len}
use Rattle.bl_whole.specs.Sums.{component, sum_below, dot}
use Rattle.bl_whole.proofs.Products.{*ℤ_assoc, *ℤ_one, one-*ℤ, neg_ℤ-*ℤ, *ℤ-neg_ℤ, *ℤ--ℤ}
use Rattle.bl_whole.proofs.SumLemmas.{sum_below-agree, sum_below-add}
use Rattle.bl_terms.specs.Points.{InArea}
use Rattle.bl_terms.specs.Bounds.{Problem, IsProblem, linear_at}
use Rattle.bl_simplex.specs.Fractions.{Fraction, whole_fraction}
use Rattle.bl_simplex.specs.Rationals.{fraction_at}
use Rattle.bl_simplex.specs.Dictionaries.{columns, cost_row, descends, start_at, sign_at, at_start, opening_number}
use Rattle.bl_simplex.specs.Dictionaries.{opening}
use Rattle.bl_tableau.specs.Solutions.{SolvesRow, Solves, AreRational}
use Rattle.bl_tableau.proofs.OpeningSteps.{entry_of_row, right_of_row, entry_of_range, right_of_range, entry_of_cost}
use Rattle.bl_tableau.proofs.OpeningSteps.{right_of_cost}
use Rattle.bl_duality.proofs.Labels.{variables}
use Rattle.bl_duality.proofs.Regroup.{sum_of_one, at_label_same, at_label_other}
use Rattle.bl_duality.proofs.WholeRows.{whole_values, row_solved}

-- how far column j of the point is from its start
abbrev pub distance : Problem → List ℤ → ℕ → ℤ
distance q z j = sign_at q j *ℤ (component z j -ℤ start_at q j)

-- what row i leaves at the point
abbrev pub slack : Problem → List ℤ → ℕ → ℤ
slack q z i = (linear_at q.rows i).rhs -ℤ dot (linear_at q.rows i).coef z

-- how far column j is from the other end of its range
abbrev pub room : Problem → List ℤ → ℕ → ℤ
room q z j = (component q.area.hi j -ℤ component q.area.lo j) -ℤ distance q z j

-- the value of the variable of row i of the opening dictionary
abbrev pub row_value : Problem → List ℤ → ℕ → ℤ
row_value q z i =
    if nat_lt i (length q.rows)
    then slack q z i
    else (if nat_lt i (cost_row q) then room q z (i - length q.rows) else dot q.cost z)

-- the value of the variable l, 0 past the last one
abbrev pub point_value : Problem → List ℤ → ℕ → ℤ
point_value q z l =
    if nat_lt l (columns q)
    then distance q z l
    else (if nat_lt l (variables q) then row_value q z (l - columns q) else pos 0)

pub value_of_column : (q : Problem) (z : List ℤ) (j : ℕ) → j < columns q → point_value q z j ≡ distance q z j
value_of_column q z j h = cond-true (nat_lt j (columns q)) _ _ (lt-ltb j (columns q) h)

value_past : (q : Problem) (z : List ℤ) (l : ℕ) → variables q ≤ l → point_value q z l ≡ pos 0
value_past q z l h =
    cond-false (nat_lt l (columns q)) _ _ (le-ltb l (columns q) (omega arith))
    ∙ cond-false (nat_lt l (variables q)) _ _ (le-ltb l (variables q) h)

value_of_row : (q : Problem) (z : List ℤ) (i : ℕ) → i ≤ cost_row q
    → point_value q z (columns q + i) ≡ row_value q z i
value_of_row q z i h =
    let same : (columns q + i) - columns q ≡ i = omega arith in
    cond-false (nat_lt (columns q + i) (columns q)) _ _ (le-ltb (columns q + i) (columns q) (omega arith))
    ∙ cond-true (nat_lt (columns q + i) (variables q)) _ _ (lt-ltb (columns q + i) (variables q) (omega arith))
    ∙ ap (row_value q z) same

pub value_of_slack : (q : Problem) (z : List ℤ) (i : ℕ) → i < length q.rows
    → point_value q z (columns q + i) ≡ slack q z i
value_of_slack q z i h =
    value_of_row q z i (omega arith) ∙ cond-true (nat_lt i (length q.rows)) _ _ (lt-ltb i (length q.rows) h)

pub value_of_range : (q : Problem) (z : List ℤ) (j : ℕ) → j < columns q
    → point_value q z (columns q + (length q.rows + j)) ≡ room q z j
value_of_range q z j h =
    let i = length q.rows + j in
    let same : i - length q.rows ≡ j = omega arith in
    value_of_row q z i (omega arith)
    ∙ cond-false (nat_lt i (length q.rows)) _ _ (le-ltb i (length q.rows) (omega arith))
    ∙ cond-true (nat_lt i (cost_row q)) _ _ (lt-ltb i (cost_row q) (omega arith))
    ∙ ap (room q z) same

pub value_of_cost : (q : Problem) (z : List ℤ) → point_value q z (columns q + cost_row q) ≡ dot q.cost z
value_of_cost q z =
    value_of_row q z (cost_row q) (omega arith)
    ∙ cond-false (nat_lt (cost_row q) (length q.rows)) _ _ (le-ltb (cost_row q) (length q.rows) (omega arith))
    ∙ cond-false (nat_lt (cost_row q) (cost_row q)) _ _ (le-ltb (cost_row q) (cost_row q) (omega arith))

-- ---- in the box no distance is negative, and none is longer than its range

distance_from : (t : Bool) (lo hi x : ℤ) → lo ≤ℤ x → x ≤ℤ hi
    → (pos 0 ≤ℤ (cond t (negsuc 0) (pos 1) *ℤ (x -ℤ cond t hi lo)))
    × (pos 0 ≤ℤ ((hi -ℤ lo) -ℤ cond t (negsuc 0) (pos 1) *ℤ (x -ℤ cond t hi lo)))
distance_from true lo hi x low high =
    let e = neg_ℤ-*ℤ (pos 1) (x -ℤ hi) in
    let o = one-*ℤ (x -ℤ hi) in
    (omega (arith, ints), omega (arith, ints))
distance_from false lo hi x low high =
    let o = one-*ℤ (x -ℤ lo) in
    (omega (arith, ints), omega (arith, ints))

pub distance_least : (q : Problem) (z : List ℤ) (j : ℕ) → InArea q.area z → j < columns q
    → pos 0 ≤ℤ point_value q z j
distance_least q z j inside h =
    subst (λ x. pos 0 ≤ℤ x) (sym (value_of_column q z j h))
    (distance_from (descends q j) (component q.area.lo j) (component q.area.hi j) (component z j) (inside.least j h)
    (inside.most j h)).0

pub room_least : (q : Problem) (z : List ℤ) (j : ℕ) → InArea q.area z → j < columns q
    → pos 0 ≤ℤ point_value q z (columns q + (length q.rows + j))
room_least q z j inside h =
    subst (λ x. pos 0 ≤ℤ x) (sym (value_of_range q z j h))
    (distance_from (descends q j) (component q.area.lo j) (component q.area.hi j) (component z j) (inside.least j h)
    (inside.most j h)).1

-- ---- the opening dictionary at these values

sign_squared : (t : Bool) → cond t (negsuc 0) (pos 1) *ℤ cond t (negsuc 0) (pos 1) ≡ pos 1
sign_squared true = refl
sign_squared false = refl

row_term : (q : Problem) (a x : ℤ) (j : ℕ)
    → (a *ℤ sign_at q j) *ℤ (sign_at q j *ℤ (x -ℤ start_at q j)) ≡ a *ℤ x -ℤ a *ℤ start_at q j
row_term q a x j =
    let s = sign_at q j in
    let d = x -ℤ start_at q j in
    *ℤ_assoc a s (s *ℤ d) ∙ ap (λ y. a *ℤ y) (sym (*ℤ_assoc s s d) ∙ ap (λ y. y *ℤ d) (sign_squared (descends q j))
    ∙ one-*ℤ d) ∙ *ℤ--ℤ a x (start_at q j)

-- a cost that isn't negative has the direction 1, a negative one -1
cost_sign : (c : ℤ) → neg_ℤ (pos (unsigned_abs c)) *ℤ cond (int_lt c (pos 0)) (negsuc 0) (pos 1) ≡ neg_ℤ c
cost_sign (pos n) =
    ap (λ t. neg_ℤ (pos n) *ℤ cond t (negsuc 0) (pos 1)) (le-ltb n 0 (omega arith)) ∙ *ℤ_one (neg_ℤ (pos n))
cost_sign (negsuc n) = *ℤ-neg_ℤ (negsuc n) (pos 1) ∙ ap neg_ℤ (*ℤ_one (negsuc n))

cost_term : (q : Problem) (x : ℤ) (j : ℕ)
    → neg_ℤ (pos (unsigned_abs (component q.cost j))) *ℤ (sign_at q j *ℤ (x -ℤ start_at q j))
    ≡ component q.cost j *ℤ start_at q j -ℤ component q.cost j *ℤ x
cost_term q x j =
    let c = component q.cost j in
    let s = sign_at q j in
    let d = x -ℤ start_at q j in
    let e : neg_ℤ (pos (unsigned_abs c)) *ℤ (s *ℤ d) ≡ neg_ℤ (c *ℤ d) =
    sym (*ℤ_assoc (neg_ℤ (pos (unsigned_abs c))) s d) ∙ ap (λ y. y *ℤ d) (cost_sign c) ∙ neg_ℤ-*ℤ c d in
    let f = *ℤ--ℤ c x (start_at q j) in
    omega (arith, ints)

-- a sum of differences is the difference of the sums
pub sum_of_differences : (n : ℕ) (f g : ℕ → ℤ) → sum_below n (λ j. f j -ℤ g j) ≡ sum_below n f -ℤ sum_below n g
sum_of_differences n f g =
    let e = sum_below-add n (λ j. f j -ℤ g j) g in
    let h = sum_below-agree n (λ j. (f j -ℤ g j) +ℤ g j) f (λ j b. omega (arith, ints)) in
    omega (arith, ints)

row_sum : (q : Problem) (z : List ℤ) (i : ℕ) → IsProblem q → i < length q.rows
    → sum_below (columns q) (λ j. opening_number q i j *ℤ point_value q z j)
    ≡ dot (linear_at q.rows i).coef z -ℤ at_start q (linear_at q.rows i).coef
row_sum q z i shape h =
    let n = columns q in
    let cs = (linear_at q.rows i).coef in
    let f : ℕ → ℤ = λ j. component cs j *ℤ component z j in
    let g : ℕ → ℤ = λ j. component cs j *ℤ start_at q j in
    sum_below-agree n (λ j. opening_number q i j *ℤ point_value q z j) (λ j. f j -ℤ g j)
    (λ j b. ap (λ y. y *ℤ point_value q z j) (entry_of_row q i j h b)
    ∙ ap (λ y. (component cs j *ℤ sign_at q j) *ℤ y) (value_of_column q z j b)
    ∙ row_term q (component cs j) (component z j) j)
    ∙ sum_of_differences n f g
    ∙ ap (λ k. sum_below k f -ℤ sum_below k g) (sym (shape.row_columns i h))

cost_sum : (q : Problem) (z : List ℤ) → IsProblem q
    → sum_below (columns q) (λ j. opening_number q (cost_row q) j *ℤ point_value q z j)
    ≡ at_start q q.cost -ℤ dot q.cost z
cost_sum q z shape =
    let n = columns q in
    let f : ℕ → ℤ = λ j. component q.cost j *ℤ start_at q j in
    let g : ℕ → ℤ = λ j. component q.cost j *ℤ component z j in
    sum_below-agree n (λ j. opening_number q (cost_row q) j *ℤ point_value q z j) (λ j. f j -ℤ g j)
    (λ j b. ap (λ y. y *ℤ point_value q z j) (entry_of_cost q j b)
    ∙ ap (λ y. neg_ℤ (pos (unsigned_abs (component q.cost j))) *ℤ y) (value_of_column q z j b)
    ∙ cost_term q (component z j) j)
    ∙ sum_of_differences n f g
    ∙ ap (λ k. sum_below k f -ℤ sum_below k g) (sym shape.cost_columns)

shifted : (m k j : ℕ) → j ≢ k → m + k ≢ m + j
shifted m k j ne e = ne (omega arith)

range_sum : (q : Problem) (z : List ℤ) (k : ℕ) → k < columns q
    → sum_below (columns q) (λ j. opening_number q (length q.rows + k) j *ℤ point_value q z j) ≡ distance q z k
range_sum q z k h =
    let m = length q.rows in
    let f : ℕ → ℤ = λ j. opening_number q (m + k) j *ℤ point_value q z j in
    sum_of_one (columns q) k f h
    (λ j b ne. ap (λ y. y *ℤ point_value q z j)
    (entry_of_range q k j h b ∙ at_label_other (m + k) (pos 1) (m + j) (shifted m k j ne))
    ∙ zero-*ℤ (point_value q z j))
    ∙ ap (λ y. y *ℤ point_value q z k) (entry_of_range q k k h h ∙ at_label_same (m + k) (pos 1))
    ∙ one-*ℤ (point_value q z k) ∙ value_of_column q z k h

-- every row of the opening dictionary as an equation
row_equation : (q : Problem) (z : List ℤ) (i : ℕ) → IsProblem q → i ≤ cost_row q
    → point_value q z (columns q + i) ≡ opening_number q i (columns q)
    -ℤ sum_below (columns q) (λ j. opening_number q i j *ℤ point_value q z j)
row_equation q z i shape h =
    elim (cases_lt i (length q.rows)) [
      | inl row ↦
          let a = value_of_slack q z i row in
          let b = right_of_row q i row in
          let c = row_sum q z i shape row in
          omega (arith, ints)
      | inr past ↦ elim (cases_lt i (cost_row q)) [
        | inl range ↦
            let k = i - length q.rows in
            let same : length q.rows + k ≡ i = omega arith in
            let inside : k < columns q = omega arith in
            let a = value_of_range q z k inside in
            let b = right_of_range q k inside in
            let c = range_sum q z k inside in
            subst (λ r. point_value q z (columns q + r) ≡ opening_number q r (columns q)
            -ℤ sum_below (columns q) (λ j. opening_number q r j *ℤ point_value q z j)) same (omega (arith, ints))
        | inr cost ↦
            let same : cost_row q ≡ i = omega arith in
            let a = value_of_cost q z in
            let b = right_of_cost q in
            let c = cost_sum q z shape in
            subst (λ r. point_value q z (columns q + r) ≡ opening_number q r (columns q)
            -ℤ sum_below (columns q) (λ j. opening_number q r j *ℤ point_value q z j)) same (omega (arith, ints))
      ]
    ]

opening_row_solved : (q : Problem) (z : List ℤ) (i : ℕ) → IsProblem q → i ≤ cost_row q
    → SolvesRow (columns q) (opening q) (whole_values (point_value q z)) i
unfolding opening
opening_row_solved q z i shape h =
    row_solved (columns q) (opening q) (point_value q z) (opening_number q i) (opening_number q i (columns q)) i
    (λ j b. refl) refl (row_equation q z i shape h)

-- ---- the values as a list

abbrev pub value_list : Problem → List ℤ → List Fraction
value_list q z = map (whole_values (point_value q z)) (range_with_len 0 (variables q))

list_length : (q : Problem) (z : List ℤ) → length (value_list q z) ≡ variables q
list_length q z = length-map-range_with_len (whole_values (point_value q z)) 0 (variables q)

list_at : (q : Problem) (z : List ℤ) (l : ℕ) → fraction_at (value_list q z) l ≡ whole_values (point_value q z) l
list_at q z l =
    elim (cases_lt l (variables q)) [
      | inl below ↦ get_or-map-range_with_len (whole_values (point_value q z)) 0 (variables q) l l
          (whole_fraction (pos 0)) below (omega arith)
      | inr past ↦ get_or_past (value_list q z) l (whole_fraction (pos 0)) (omega (arith, list_length q z))
          ∙ ap whole_fraction (sym (value_past q z l past))
    ]

pub list_is : (q : Problem) (z : List ℤ) → fraction_at (value_list q z) ≡ whole_values (point_value q z)
list_is q z = λ i l. list_at q z l i

pub list_rational : (q : Problem) (z : List ℤ) → AreRational (value_list q z)
list_rational q z = record {
  each = λ k h. subst (λ f. 0 < f.den) (sym (list_at q z k)) (omega arith);
}

pub opening_solved : (q : Problem) (z : List ℤ) → IsProblem q → Solves q (opening q) (value_list q z)
opening_solved q z shape = record {
  each = λ i h. subst (λ x. SolvesRow (columns q) (opening q) x i) (sym (list_is q z))
      (opening_row_solved q z i shape h);
}
