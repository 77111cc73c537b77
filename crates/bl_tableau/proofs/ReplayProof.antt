-- The law of the replay, by induction on the pivots.
use Rattle.std.proofs.Common.{◌≡◌, ◌≢◌, ℕ, ◌<◌, ◌≤◌, pos, neg_ℤ, ◌+ℤ◌, ◌-ℤ◌, ◌*ℤ◌, cond, sym, ap, ◌∙◌, arith}
use Rattle.std.specs.Int.{◌∣◌}
use Rattle.std.proofs.lemmas.Int.{ints}
use Rattle.bl_whole.specs.Sums.{sum_below}
use Rattle.bl_whole.proofs.SumLemmas.{without, sum_below_isolate}
use Rattle.bl_terms.specs.Bounds.{Problem}
use Rattle.bl_simplex.specs.Fractions.{Fraction}
use Rattle.bl_simplex.specs.Dictionaries.{Dictionary, columns, cost_row}
use Rattle.bl_simplex.specs.Pivots.{pivoted, IsNarrowPivot}
use Rattle.bl_tableau.specs.Solutions.{SolvesRow}
use Rattle.bl_tableau.proofs.RowSteps.{test_same, test_other}
use Rattle.bl_tableau.proofs.Scaling.{over, over_is, cancel}
use Rattle.bl_tableau.proofs.PivotLaw.{own_share, other_share, own_remainder, other_remainder, ArePositive}
use Rattle.bl_tableau.proofs.PivotLaw.{positive_after}
use Rattle.bl_tableau.proofs.RowAlgebra.{PivotEquation, pivot_from_row, row_from_pivot, new_from_pivot, pivot_from_new}
use Rattle.bl_tableau.proofs.RowAlgebra.{other_row}
use Rattle.bl_tableau.proofs.RowEquations.{ValuesPositive, CommonRow, row_total, equation_from_row, row_from_equation}
use Rattle.bl_tableau.proofs.RowEquations.{quotient_over, one_quotient_over, negated_over, difference_over}
use Rattle.bl_tableau.proofs.Replays.{sum_share, sum_new, sum_remainder}

-- ---- the labels after a pivot

pub row_label_own : (d : Dictionary) (r c : ℕ) → (pivoted d r c).row_label r ≡ d.column_label c
unfolding pivoted
row_label_own d r c = ap (λ t. cond t (d.column_label c) (d.row_label r)) (test_same r)

pub row_label_other : (d : Dictionary) (r c i : ℕ) → i ≢ r → (pivoted d r c).row_label i ≡ d.row_label i
unfolding pivoted
row_label_other d r c i h = ap (λ t. cond t (d.column_label c) (d.row_label i)) (test_other i r h)

pub column_label_own : (d : Dictionary) (r c : ℕ) → (pivoted d r c).column_label c ≡ d.row_label r
unfolding pivoted
column_label_own d r c = ap (λ t. cond t (d.row_label r) (d.column_label c)) (test_same c)

pub column_label_other : (d : Dictionary) (r c j : ℕ) → j ≢ c → (pivoted d r c).column_label j ≡ d.column_label j
unfolding pivoted
column_label_other d r c j h = ap (λ t. cond t (d.row_label r) (d.column_label j)) (test_other j c h)

-- ---- one denominator for the rows r and i, before and after the pivot

pub record Setting (q : Problem) (d : Dictionary) (r c i : ℕ) (x : ℕ → Fraction) (m : ℕ) : Type 0 where
  pub narrow : IsNarrowPivot q d r c
  pub positive : ArePositive q d
  pub values : ValuesPositive x
  pub row_in : i ≤ cost_row q
  pub some : 0 < m
  pub old_row : CommonRow (columns q) d x i m
  pub old_pivot : CommonRow (columns q) d x r m
  pub new_row : CommonRow (columns q) (pivoted d r c) x i m
  pub new_pivot : CommonRow (columns q) (pivoted d r c) x r m

-- what the pivot row says over m
abbrev pub pivot_says : Problem → Dictionary → ℕ → ℕ → (ℕ → Fraction) → ℕ → Type 0
pivot_says q d r c x m =
    PivotEquation (pos m) (over m ((pivoted d r c).place r c)) (over m (x (d.row_label r)))
    (over m ((pivoted d r c).place r (columns q)))
    (sum_below (columns q) (without c (λ j. over m ((pivoted d r c).place r j) *ℤ over m (x (d.column_label j)))))
    (over m (x (d.column_label c)))

share_tied : (q : Problem) (d : Dictionary) (r c i : ℕ) (x : ℕ → Fraction) (m j : ℕ) → Setting q d r c i x m
    → j ≤ columns q → j ≢ c
    → over m (d.place r j) *ℤ pos m ≡ over m ((pivoted d r c).place r j) *ℤ over m (d.place r c)
share_tied q d r c i x m j s hj ne =
    let can = s.narrow.possible in
    let after = positive_after q d r c s.narrow s.positive in
    quotient_over m (d.place r j) (d.place r c) ((pivoted d r c).place r j) (after.each r j can.row_in hj)
    (s.positive.each r c can.row_in (omega (arith, can.column_in))) (s.old_pivot.places j hj)
    (s.old_pivot.places c (omega (arith, can.column_in))) (s.new_pivot.places j hj)
    (s.positive.each r j can.row_in hj) (other_share q d r c j s.narrow hj ne)

one_tied : (q : Problem) (d : Dictionary) (r c i : ℕ) (x : ℕ → Fraction) (m : ℕ) → Setting q d r c i x m
    → pos m *ℤ pos m ≡ over m ((pivoted d r c).place r c) *ℤ over m (d.place r c)
one_tied q d r c i x m s =
    let can = s.narrow.possible in
    let inside : c ≤ columns q = omega (arith, can.column_in) in
    let after = positive_after q d r c s.narrow s.positive in
    one_quotient_over m (d.place r c) ((pivoted d r c).place r c) (after.each r c can.row_in inside)
    (s.positive.each r c can.row_in inside) (s.old_pivot.places c inside) (s.new_pivot.places c inside)
    (own_share q d r c s.narrow)

-- a fraction other than 0 is no 0 over m
over_nonzero : (m : ℕ) (f : Fraction) → 0 < m → f.den ∣ m → (f.num ≡ pos 0 → ⊥) → over m f ≡ pos 0 → ⊥
over_nonzero m f some h nonzero e =
    nonzero (cancel f.num (pos 0) m some ((over_is m f h).scaled ∙ ap (λ z. z *ℤ pos f.den) e ∙ omega (arith, ints)))

not_the_end : (n c : ℕ) → c < n → n ≢ c
not_the_end n c h e = omega arith

pivot_sum : (q : Problem) (d : Dictionary) (r c i : ℕ) (x : ℕ → Fraction) (m : ℕ) → Setting q d r c i x m
    → row_total (columns q) d x r m *ℤ pos m
    ≡ sum_below (columns q) (without c (λ j. over m ((pivoted d r c).place r j) *ℤ over m (x (d.column_label j))))
    *ℤ over m (d.place r c)
    +ℤ (over m (d.place r c) *ℤ over m (x (d.column_label c))) *ℤ pos m
pivot_sum q d r c i x m s =
    sum_share (columns q) c (λ j. over m (d.place r j)) (λ j. over m ((pivoted d r c).place r j))
    (λ j. over m (x (d.column_label j))) (pos m) (over m (d.place r c)) s.narrow.possible.column_in
    (λ j l ne. share_tied q d r c i x m j s (omega arith) ne)

-- the pivot row's new sum
new_sum : (q : Problem) (d : Dictionary) (r c : ℕ) (x : ℕ → Fraction) (m : ℕ) → c < columns q
    → row_total (columns q) (pivoted d r c) x r m
    ≡ over m ((pivoted d r c).place r c) *ℤ over m (x (d.row_label r))
    +ℤ sum_below (columns q) (without c (λ j. over m ((pivoted d r c).place r j) *ℤ over m (x (d.column_label j))))
new_sum q d r c x m hc =
    let e = pivoted d r c in
    let rest = sum_below (columns q) (without c (λ j. over m (e.place r j) *ℤ over m (x (d.column_label j)))) in
    sum_new (columns q) c (λ j. over m (e.place r j)) (λ j. over m (x (d.column_label j)))
    (λ j. over m (x (e.column_label j))) hc (λ j l ne. ap (λ k. over m (x k)) (column_label_other d r c j ne))
    ∙ ap (λ k. over m (e.place r c) *ℤ over m (x k) +ℤ rest) (column_label_own d r c)

pub says_from_old : (q : Problem) (d : Dictionary) (r c i : ℕ) (x : ℕ → Fraction) (m : ℕ) → Setting q d r c i x m
    → SolvesRow (columns q) d x r → pivot_says q d r c x m
says_from_old q d r c i x m s solved =
    let can = s.narrow.possible in
    let n = columns q in
    pivot_from_row (pos m) (over m (d.place r c)) (over m ((pivoted d r c).place r c)) (over m (x (d.row_label r)))
    (over m (d.place r n)) (row_total n d x r m) (over m ((pivoted d r c).place r n)) _
    (over m (x (d.column_label c)))
    (over_nonzero m (d.place r c) s.some (s.old_pivot.places c (omega (arith, can.column_in))) can.nonzero)
    (one_tied q d r c i x m s) (share_tied q d r c i x m n s (omega arith) (not_the_end n c can.column_in))
    (pivot_sum q d r c i x m s)
    (equation_from_row q d x r m s.positive s.values can.row_in s.old_pivot solved)

pub old_from_says : (q : Problem) (d : Dictionary) (r c i : ℕ) (x : ℕ → Fraction) (m : ℕ) → Setting q d r c i x m
    → pivot_says q d r c x m → SolvesRow (columns q) d x r
old_from_says q d r c i x m s says =
    let can = s.narrow.possible in
    let n = columns q in
    row_from_equation q d x r m s.some s.old_pivot
    (row_from_pivot m (over m (d.place r c)) (over m ((pivoted d r c).place r c)) (over m (x (d.row_label r)))
    (over m (d.place r n)) (row_total n d x r m) (over m ((pivoted d r c).place r n)) _
    (over m (x (d.column_label c)))
    s.some (one_tied q d r c i x m s) (share_tied q d r c i x m n s (omega arith) (not_the_end n c can.column_in))
    (pivot_sum q d r c i x m s) says)

pub new_from_says : (q : Problem) (d : Dictionary) (r c i : ℕ) (x : ℕ → Fraction) (m : ℕ) → Setting q d r c i x m
    → pivot_says q d r c x m → SolvesRow (columns q) (pivoted d r c) x r
new_from_says q d r c i x m s says =
    let n = columns q in
    let e = pivoted d r c in
    let row : over m (x (d.column_label c)) *ℤ pos m ≡ over m (e.place r n) *ℤ pos m -ℤ row_total n e x r m =
    new_from_pivot (pos m) (over m (e.place r c)) (over m (x (d.row_label r))) (over m (e.place r n)) _
    (over m (x (d.column_label c))) (row_total n e x r m) (new_sum q d r c x m s.narrow.possible.column_in) says in
    row_from_equation q e x r m s.some s.new_pivot (ap (λ k. over m (x k) *ℤ pos m) (row_label_own d r c) ∙ row)

pub says_from_new : (q : Problem) (d : Dictionary) (r c i : ℕ) (x : ℕ → Fraction) (m : ℕ) → Setting q d r c i x m
    → SolvesRow (columns q) (pivoted d r c) x r → pivot_says q d r c x m
says_from_new q d r c i x m s solved =
    let can = s.narrow.possible in
    let n = columns q in
    let e = pivoted d r c in
    let row = equation_from_row q e x r m
    (positive_after q d r c s.narrow s.positive) s.values can.row_in s.new_pivot solved in
    pivot_from_new (pos m) (over m (e.place r c)) (over m (x (d.row_label r))) (over m (e.place r n)) _
    (over m (x (d.column_label c))) (row_total n e x r m) (new_sum q d r c x m can.column_in)
    (ap (λ k. over m (x k) *ℤ pos m) (sym (row_label_own d r c)) ∙ row)

-- ---- another row

remainder_tied : (q : Problem) (d : Dictionary) (r c i : ℕ) (x : ℕ → Fraction) (m j : ℕ) → Setting q d r c i x m
    → i ≢ r → j ≤ columns q → j ≢ c
    → over m ((pivoted d r c).place i j) *ℤ pos m ≡ over m (d.place i j) *ℤ pos m -ℤ over m (d.place i c)
    *ℤ over m ((pivoted d r c).place r j)
remainder_tied q d r c i x m j s other hj ne =
    let can = s.narrow.possible in
    let inside : c ≤ columns q = omega (arith, can.column_in) in
    let after = positive_after q d r c s.narrow s.positive in
    let w = other_remainder q d r c i j s.narrow s.row_in hj other ne in
    difference_over m (d.place i c) ((pivoted d r c).place r j) w.0 (d.place i j) ((pivoted d r c).place i j)
    (s.positive.each i c s.row_in inside) (after.each r j can.row_in hj) (s.positive.each i j s.row_in hj)
    (after.each i j s.row_in hj) (s.old_row.places c inside) (s.new_pivot.places j hj) (s.old_row.places j hj)
    (s.new_row.places j hj) w.1 w.2

own_tied : (q : Problem) (d : Dictionary) (r c i : ℕ) (x : ℕ → Fraction) (m : ℕ) → Setting q d r c i x m → i ≢ r
    → over m ((pivoted d r c).place i c) *ℤ pos m ≡ neg_ℤ (over m (d.place i c) *ℤ over m ((pivoted d r c).place r c))
own_tied q d r c i x m s other =
    let can = s.narrow.possible in
    let inside : c ≤ columns q = omega (arith, can.column_in) in
    let after = positive_after q d r c s.narrow s.positive in
    let w = own_remainder q d r c i s.narrow s.row_in other in
    negated_over m (d.place i c) ((pivoted d r c).place r c) w.0 ((pivoted d r c).place i c)
    (s.positive.each i c s.row_in inside) (after.each r c can.row_in inside) (after.each i c s.row_in inside)
    (s.old_row.places c inside) (s.new_pivot.places c inside) (s.new_row.places c inside) w.1 w.2

same_sides : (q : Problem) (d : Dictionary) (r c i : ℕ) (x : ℕ → Fraction) (m : ℕ) → Setting q d r c i x m → i ≢ r
    → pivot_says q d r c x m
    → over m ((pivoted d r c).place i (columns q)) *ℤ pos m -ℤ row_total (columns q) (pivoted d r c) x i m
    ≡ over m (d.place i (columns q)) *ℤ pos m -ℤ row_total (columns q) d x i m
same_sides q d r c i x m s other says =
    let n = columns q in
    let e = pivoted d r c in
    let hc = s.narrow.possible.column_in in
    let component = over m (d.place i c) in
    let share = over m (e.place r c) in
    let old = sum_below_isolate n c (λ j. over m (d.place i j) *ℤ over m (x (d.column_label j))) hc in
    let new = sum_remainder n c (λ j. over m (e.place i j)) (λ j. over m (d.place i j)) (λ j. over m (e.place r j))
    (λ j. over m (x (d.column_label j))) (λ j. over m (x (e.column_label j))) (pos m) component
    (neg_ℤ (component *ℤ share)) hc
    (λ j l ne. remainder_tied q d r c i x m j s other (omega arith) ne)
    (λ j l ne. ap (λ k. over m (x k)) (column_label_other d r c j ne)) (own_tied q d r c i x m s other) in
    let rest = sum_below n (without c (λ j. over m (d.place i j) *ℤ over m (x (d.column_label j)))) in
    let shares = sum_below n (without c (λ j. over m (e.place r j) *ℤ over m (x (d.column_label j)))) in
    let turned = ap (λ k. neg_ℤ (component *ℤ share) *ℤ over m (x k) +ℤ (rest *ℤ pos m -ℤ component *ℤ shares))
    (column_label_own d r c) in
    other_row m component (over m (d.place i n)) (over m (e.place i n)) (row_total n d x i m)
    (row_total n e x i m) rest (over m (e.place r n)) shares share (over m (x (d.row_label r)))
    (over m (x (d.column_label c))) s.some
    (remainder_tied q d r c i x m n s other (omega arith) (not_the_end n c hc)) old (new ∙ turned) says

pub new_row_solved : (q : Problem) (d : Dictionary) (r c i : ℕ) (x : ℕ → Fraction) (m : ℕ) → Setting q d r c i x m
    → i ≢ r → pivot_says q d r c x m → SolvesRow (columns q) d x i → SolvesRow (columns q) (pivoted d r c) x i
new_row_solved q d r c i x m s other says solved =
    let row = equation_from_row q d x i m s.positive s.values s.row_in s.old_row solved in
    row_from_equation q (pivoted d r c) x i m s.some s.new_row
    (ap (λ k. over m (x k) *ℤ pos m) (row_label_other d r c i other) ∙ row
    ∙ sym (same_sides q d r c i x m s other says))

pub old_row_solved : (q : Problem) (d : Dictionary) (r c i : ℕ) (x : ℕ → Fraction) (m : ℕ) → Setting q d r c i x m
    → i ≢ r → pivot_says q d r c x m → SolvesRow (columns q) (pivoted d r c) x i → SolvesRow (columns q) d x i
old_row_solved q d r c i x m s other says solved =
    let row = equation_from_row q (pivoted d r c) x i m
    (positive_after q d r c s.narrow s.positive) s.values s.row_in s.new_row solved in
    row_from_equation q d x i m s.some s.old_row
    (ap (λ k. over m (x k) *ℤ pos m) (sym (row_label_other d r c i other)) ∙ row
    ∙ same_sides q d r c i x m s other says)
