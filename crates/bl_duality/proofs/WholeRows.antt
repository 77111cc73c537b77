-- A row of a dictionary at whole values of the variables, as an equation of whole numbers.
use Rattle.std.proofs.Common.{◌≡◌, ℕ, zero, suc, ◌*◌, ◌<◌, ◌≤◌, ℤ, pos, ◌+ℤ◌, ◌-ℤ◌, ◌*ℤ◌, refl, sym, subst}
use Rattle.std.proofs.Common.{arith}
use Rattle.std.specs.Int.{◌∣◌}
use Rattle.std.proofs.Math.IntN.{*ℤ_comm}
use Rattle.std.proofs.lemmas.Int.{ints}
use Rattle.bl_whole.specs.Sums.{sum_below}
use Rattle.bl_whole.proofs.Products.{*ℤ_one}
use Rattle.bl_terms.specs.Bounds.{Problem}
use Rattle.bl_simplex.specs.Fractions.{Fraction, whole_fraction}
use Rattle.bl_simplex.specs.Rationals.{rational_difference, rational_product, rational_total}
use Rattle.bl_simplex.specs.Dictionaries.{Dictionary, columns, cost_row}
use Rattle.bl_tableau.specs.Solutions.{SolvesRow}
use Rattle.bl_tableau.proofs.Scaling.{IsOver, over, over_is, over_difference, over_product, over_total, over_from_same}
use Rattle.bl_tableau.proofs.Scaling.{same_from_over, over_whole, over_itself}
use Rattle.bl_tableau.proofs.PivotLaw.{ArePositive}
use Rattle.bl_tableau.proofs.RowEquations.{product_positive, total_positive}

-- the values of the variables as fractions
abbrev pub whole_values : (ℕ → ℤ) → ℕ → Fraction
whole_values v l = whole_fraction (v l)

over_times : (m : ℕ) (f : Fraction) (x z : ℤ) → IsOver m f x
    → IsOver m (rational_product f (whole_fraction z)) (x *ℤ z)
over_times m f x z h =
    let e : m * 1 ≡ m = omega arith in
    subst (λ n. IsOver n (rational_product f (whole_fraction z)) (x *ℤ z)) e
    (over_product m 1 f (whole_fraction z) x z h (over_itself z))

-- the right side of a row less the sum over its columns
abbrev row_value : ℕ → Dictionary → (ℕ → ℤ) → ℕ → Fraction
row_value n d v i =
    rational_difference (d.place i n)
    (rational_total n (λ j. rational_product (d.place i j) (whole_fraction (v (d.column_label j)))))

row_over : (n m : ℕ) (d : Dictionary) (v g : ℕ → ℤ) (b : ℤ) (i : ℕ) → ((j : ℕ) → j < n → IsOver m (d.place i j) (g j))
    → IsOver m (d.place i n) b
    → IsOver m (row_value n d v i) (b -ℤ sum_below n (λ j. g j *ℤ v (d.column_label j)))
row_over n m d v g b i each right =
    over_difference m (d.place i n)
    (rational_total n (λ j. rational_product (d.place i j) (whole_fraction (v (d.column_label j))))) b
    (sum_below n (λ j. g j *ℤ v (d.column_label j))) right
    (over_total m n (λ j. rational_product (d.place i j) (whole_fraction (v (d.column_label j))))
    (λ j. g j *ℤ v (d.column_label j))
    (λ j h. over_times m (d.place i j) (g j) (v (d.column_label j)) (each j h)))

value_positive : (n : ℕ) (d : Dictionary) (v : ℕ → ℤ) (i : ℕ) → ((j : ℕ) → j ≤ n → 0 < (d.place i j).den)
    → 0 < (row_value n d v i).den
value_positive n d v i positive =
    product_positive (d.place i n).den
    (rational_total n (λ j. rational_product (d.place i j) (whole_fraction (v (d.column_label j))))).den
    (positive n (omega arith))
    (total_positive n (λ j. rational_product (d.place i j) (whole_fraction (v (d.column_label j))))
    (λ j h. let p = positive j (omega arith) in omega arith))

-- m is a multiple of every denominator of the row
abbrev pub IsRowMultiple : Problem → Dictionary → ℕ → ℕ → Type 0
IsRowMultiple q d i m = (j : ℕ) → j ≤ columns q → (d.place i j).den ∣ m

-- the row's entries over m, times the columns' values, and m times the row's own value, are the right side over m
pub whole_row : (q : Problem) (d : Dictionary) (v : ℕ → ℤ) (i m : ℕ) → ArePositive q d → i ≤ cost_row q
    → IsRowMultiple q d i m → SolvesRow (columns q) d (whole_values v) i
    → sum_below (columns q) (λ j. over m (d.place i j) *ℤ v (d.column_label j)) +ℤ pos m *ℤ v (d.row_label i)
    ≡ over m (d.place i (columns q))
whole_row q d v i m positive hi divides solved =
    let n = columns q in
    let e : v (d.row_label i) *ℤ pos m
    ≡ over m (d.place i n) -ℤ sum_below n (λ j. over m (d.place i j) *ℤ v (d.column_label j)) =
    over_from_same m (whole_fraction (v (d.row_label i))) (row_value n d v i) _ _ (omega arith)
    (value_positive n d v i (λ j h. positive.each i j hi h)) (over_whole m (v (d.row_label i)))
    (row_over n m d v (λ j. over m (d.place i j)) (over m (d.place i n)) i
    (λ j h. over_is m (d.place i j) (divides j (omega arith)))
    (over_is m (d.place i n) (divides n (omega arith)))) solved in
    let turned = *ℤ_comm (v (d.row_label i)) (pos m) in
    omega (arith, ints)

-- a row of whole numbers holds where its equation does
pub row_solved : (n : ℕ) (d : Dictionary) (v g : ℕ → ℤ) (b : ℤ) (i : ℕ)
    → ((j : ℕ) → j < n → d.place i j ≡ whole_fraction (g j)) → d.place i n ≡ whole_fraction b
    → v (d.row_label i) ≡ b -ℤ sum_below n (λ j. g j *ℤ v (d.column_label j)) → SolvesRow n d (whole_values v) i
row_solved n d v g b i each right e =
    same_from_over 1 (whole_fraction (v (d.row_label i))) (row_value n d v i) _ _ (omega arith)
    (over_itself (v (d.row_label i)))
    (row_over n 1 d v g b i (λ j h. subst (λ f. IsOver 1 f (g j)) (sym (each j h)) (over_itself (g j)))
    (subst (λ f. IsOver 1 f b) (sym right) (over_itself b))) e
