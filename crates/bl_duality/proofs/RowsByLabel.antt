-- A row of a reached dictionary at the values of a point, regrouped by label.
use Rattle.std.proofs.Common.{◌≡◌, ℕ, zero, suc, ◌+◌, ◌<◌, ◌≤◌, ℤ, pos, ◌+ℤ◌, ◌*ℤ◌, ◌≤ℤ◌, List, ap, ◌∙◌}
use Rattle.std.proofs.Common.{arith, length}
use Rattle.std.specs.Int.Signed.{≤ℤ_refl}
use Rattle.std.proofs.lemmas.Int.{ints}
use Rattle.bl_whole.specs.Sums.{sum_below, dot}
use Rattle.bl_whole.proofs.SumLemmas.{sum_below-agree, sum_below-split, sum_below_more}
use Rattle.bl_terms.specs.Bounds.{Problem}
use Rattle.bl_simplex.specs.Dictionaries.{Dictionary, columns, cost_row}
use Rattle.bl_tableau.specs.Solutions.{SolvesRow}
use Rattle.bl_tableau.proofs.Scaling.{over}
use Rattle.bl_tableau.proofs.PivotLaw.{ArePositive}
use Rattle.bl_duality.proofs.Labels.{variables, ArePermuted}
use Rattle.bl_duality.proofs.Regroup.{coefficient, at_label, at_label_other, regrouped_with}
use Rattle.bl_duality.proofs.WholeRows.{whole_values, IsRowMultiple, whole_row}
use Rattle.bl_duality.proofs.PointValues.{slack, point_value, value_of_slack, value_of_cost}

-- the variable's coefficient in row i over m: m itself at the row's own variable
abbrev pub row_coefficient : Problem → Dictionary → ℕ → ℕ → ℕ → ℤ
row_coefficient q d i m l =
    coefficient (columns q) (λ j. over m (d.place i j)) d.column_label (at_label (d.row_label i) (pos m)) l

-- the values of the point solve row i, and m is a multiple of its denominators
pub record IsRowAt (q : Problem) (d : Dictionary) (z : List ℤ) (i m : ℕ) : Type 0 where
  pub labels : ArePermuted q d
  pub positive : ArePositive q d
  pub row_in : i ≤ cost_row q
  pub divides : IsRowMultiple q d i m
  pub solved : SolvesRow (columns q) d (whole_values (point_value q z)) i

by_label : (q : Problem) (d : Dictionary) (z : List ℤ) (i m : ℕ) → IsRowAt q d z i m
    → sum_below (variables q) (λ l. row_coefficient q d i m l *ℤ point_value q z l) ≡ over m (d.place i (columns q))
by_label q d z i m row =
    regrouped_with (columns q) (variables q) (d.row_label i) (pos m) (λ j. over m (d.place i j)) d.column_label
    (point_value q z) (row.labels.rows_below i row.row_in) (record {
      apart = row.labels.columns_apart;
      below = row.labels.columns_below;
      uncounted = λ j h. at_label_other (d.row_label i) (pos m) (d.column_label j)
          (row.labels.sides_apart i j row.row_in h);
    })
    ∙ whole_row q d (point_value q z) i m row.positive row.row_in row.divides row.solved

-- the labels in four groups: the columns, the rows of the problem, the ranges and the cost
in_groups : (n m : ℕ) (f : ℕ → ℤ) → sum_below (n + (m + n + 1)) f
    ≡ sum_below n f +ℤ ((sum_below m (λ i. f (n + i)) +ℤ sum_below n (λ j. f (n + (m + j)))) +ℤ f (n + (m + n)))
in_groups n m f =
    let a = sum_below-split n (m + n + 1) f in
    let b = sum_below_more (m + n) (λ k. f (n + k)) in
    let c = sum_below-split m n (λ k. f (n + k)) in
    omega (arith, ints)

-- a variable's part in row i
abbrev pub part : Problem → Dictionary → List ℤ → ℕ → ℕ → ℕ → ℤ
part q d z i m l = row_coefficient q d i m l *ℤ point_value q z l

-- what the box's variables add to row i
abbrev pub box_part : Problem → Dictionary → List ℤ → ℕ → ℕ → ℤ
box_part q d z i m =
    sum_below (columns q) (part q d z i m)
    +ℤ sum_below (columns q) (λ j. part q d z i m (columns q + (length q.rows + j)))

-- what the slacks of the problem's rows add to it
abbrev pub slack_part : Problem → Dictionary → List ℤ → ℕ → ℕ → ℤ
slack_part q d z i m =
    sum_below (length q.rows) (λ k. row_coefficient q d i m (columns q + k) *ℤ slack q z k)

pub row_by_label : (q : Problem) (d : Dictionary) (z : List ℤ) (i m : ℕ) → IsRowAt q d z i m
    → over m (d.place i (columns q))
    ≡ (box_part q d z i m +ℤ slack_part q d z i m)
    +ℤ row_coefficient q d i m (columns q + cost_row q) *ℤ dot q.cost z
row_by_label q d z i m row =
    let n = columns q in
    let c = row_coefficient q d i m in
    let e = by_label q d z i m row in
    let g = in_groups n (length q.rows) (part q d z i m) in
    let s = sum_below-agree (length q.rows) (λ k. part q d z i m (n + k)) (λ k. c (n + k) *ℤ slack q z k)
    (λ k h. ap (λ x. c (n + k) *ℤ x) (value_of_slack q z k h)) in
    let t = ap (λ x. c (n + cost_row q) *ℤ x) (value_of_cost q z) in
    omega (arith, ints)

-- the slacks' part and the cost's coefficient by other names
pub parts_replaced : {b s s' c c' : ℤ} (x v : ℤ) → b ≡ (x +ℤ s) +ℤ c *ℤ v → s ≡ s' → c ≡ c'
    → b ≡ (x +ℤ s') +ℤ c' *ℤ v
parts_replaced {s' = s'} {c = c} x v e es ec =
    e ∙ ap (λ y. (x +ℤ y) +ℤ c *ℤ v) es ∙ ap (λ y. (x +ℤ s') +ℤ y *ℤ v) ec

pub sum_nonnegative : (n : ℕ) (f : ℕ → ℤ) → ((k : ℕ) → k < n → pos 0 ≤ℤ f k) → pos 0 ≤ℤ sum_below n f
sum_nonnegative zero f h = ≤ℤ_refl (pos 0)
sum_nonnegative (suc n) f h =
    let i = sum_nonnegative n f (λ k b. h k (omega arith)) in
    let e = h n (omega arith) in
    omega (arith, ints)

pub sum_nonpositive : (n : ℕ) (f : ℕ → ℤ) → ((k : ℕ) → k < n → f k ≤ℤ pos 0) → sum_below n f ≤ℤ pos 0
sum_nonpositive zero f h = ≤ℤ_refl (pos 0)
sum_nonpositive (suc n) f h =
    let i = sum_nonpositive n f (λ k b. h k (omega arith)) in
    let e = h n (omega arith) in
    omega (arith, ints)
