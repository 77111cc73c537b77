-- A row of a dictionary as an equation of whole numbers over one common denominator.
use Rattle.std.proofs.Common.{◌≡◌, ℕ, zero, suc, ◌*◌, ◌<◌, ◌≤◌, ℤ, pos, neg_ℤ, ◌-ℤ◌, ◌*ℤ◌, sym, subst, arith}
use Rattle.std.specs.Prelude.{Some}
use Rattle.std.specs.Int.{◌∣◌}
use Rattle.std.proofs.Math.Nat.{mul-lt-mul_of_pos_right}
use Rattle.std.proofs.lemmas.Int.{ints}
use Rattle.bl_whole.specs.Sums.{sum_below}
use Rattle.bl_terms.specs.Bounds.{Problem}
use Rattle.bl_simplex.specs.Fractions.{Fraction, negated, product_of, quotient_of, difference_of, whole_fraction}
use Rattle.bl_frac.proofs.Rationals.{product_of-is, quotient_of-is, difference_of-is, product_of-positive}
use Rattle.bl_simplex.specs.Dictionaries.{Dictionary, columns, cost_row}
use Rattle.bl_simplex.specs.Rationals.{rational_difference, rational_product, rational_total, SameRational}
use Rattle.bl_tableau.specs.Solutions.{SolvesRow}
use Rattle.bl_tableau.proofs.Scaling.{IsOver, over, over_is, over_difference, over_product, over_more, over_total}
use Rattle.bl_tableau.proofs.Scaling.{over_unique, over_same, over_negated, same_from_over, over_from_same}
use Rattle.bl_tableau.proofs.PivotLaw.{ArePositive}

pub product_positive : (m n : ℕ) → 0 < m → 0 < n → 0 < m * n
product_positive m n hm hn = omega (arith, mul-lt-mul_of_pos_right hm hn)

-- every value has a positive denominator
pub record ValuesPositive (x : ℕ → Fraction) : Type 0 where
  pub each : (k : ℕ) → 0 < (x k).den

-- m is a multiple of every denominator in row i, and of those of its values
pub record CommonRow (n : ℕ) (d : Dictionary) (x : ℕ → Fraction) (i m : ℕ) : Type 0 where
  pub places : (j : ℕ) → j ≤ n → (d.place i j).den ∣ m
  pub values : (j : ℕ) → j < n → (x (d.column_label j)).den ∣ m
  pub row : (x (d.row_label i)).den ∣ m

-- the sum of entry times column variable, over m squared
abbrev pub row_total : ℕ → Dictionary → (ℕ → Fraction) → ℕ → ℕ → ℤ
row_total n d x i m = sum_below n (λ j. over m (d.place i j) *ℤ over m (x (d.column_label j)))

-- row i over m: value times m is right side times m less that sum
abbrev pub RowEquation : ℕ → Dictionary → (ℕ → Fraction) → ℕ → ℕ → Type 0
RowEquation n d x i m = over m (x (d.row_label i)) *ℤ pos m ≡ over m (d.place i n) *ℤ pos m -ℤ row_total n d x i m

pub total_positive : (n : ℕ) (f : ℕ → Fraction) → ((j : ℕ) → j < n → 0 < (f j).den) → 0 < (rational_total n f).den
total_positive zero f h = omega arith
total_positive (suc n) f h =
    product_positive (rational_total n f).den (f n).den (total_positive n f (λ j l. h j (omega arith)))
    (h n (omega arith))

-- the two sides of a row over m squared
lhs_of : (n : ℕ) (d : Dictionary) (x : ℕ → Fraction) (i m : ℕ) → CommonRow n d x i m
    → IsOver (m * m) (x (d.row_label i)) (over m (x (d.row_label i)) *ℤ pos m)
lhs_of n d x i m h =
    over_more m m (x (d.row_label i)) (over m (x (d.row_label i))) (over_is m (x (d.row_label i)) h.row)

right_side : (n : ℕ) (d : Dictionary) (x : ℕ → Fraction) (i m : ℕ) → CommonRow n d x i m
    → IsOver (m * m) (rational_difference (d.place i n)
    (rational_total n (λ j. rational_product (d.place i j) (x (d.column_label j)))))
    (over m (d.place i n) *ℤ pos m -ℤ row_total n d x i m)
right_side n d x i m h =
    over_difference (m * m) (d.place i n)
    (rational_total n (λ j. rational_product (d.place i j) (x (d.column_label j)))) (over m (d.place i n) *ℤ pos m)
    (row_total n d x i m)
    (over_more m m (d.place i n) (over m (d.place i n)) (over_is m (d.place i n) (h.places n (omega arith))))
    (over_total (m * m) n (λ j. rational_product (d.place i j) (x (d.column_label j)))
    (λ j. over m (d.place i j) *ℤ over m (x (d.column_label j)))
    (λ j l. over_product m m (d.place i j) (x (d.column_label j)) (over m (d.place i j))
    (over m (x (d.column_label j))) (over_is m (d.place i j) (h.places j (omega arith)))
    (over_is m (x (d.column_label j)) (h.values j l))))

right_positive : (q : Problem) (d : Dictionary) (x : ℕ → Fraction) (i : ℕ) → ArePositive q d → ValuesPositive x
    → i ≤ cost_row q
    → 0 < (rational_difference (d.place i (columns q))
    (rational_total (columns q) (λ j. rational_product (d.place i j) (x (d.column_label j))))).den
right_positive q d x i all values hi =
    product_positive (d.place i (columns q)).den
    (rational_total (columns q) (λ j. rational_product (d.place i j) (x (d.column_label j)))).den
    (all.each i (columns q) hi (omega arith))
    (total_positive (columns q) (λ j. rational_product (d.place i j) (x (d.column_label j)))
    (λ j l. product_positive (d.place i j).den (x (d.column_label j)).den (all.each i j hi (omega arith))
    (values.each (d.column_label j))))

pub equation_from_row : (q : Problem) (d : Dictionary) (x : ℕ → Fraction) (i m : ℕ) → ArePositive q d
    → ValuesPositive x → i ≤ cost_row q → CommonRow (columns q) d x i m → SolvesRow (columns q) d x i
    → RowEquation (columns q) d x i m
equation_from_row q d x i m all values hi h solved =
    over_from_same (m * m) _ _ _ _ (values.each (d.row_label i)) (right_positive q d x i all values hi)
    (lhs_of (columns q) d x i m h) (right_side (columns q) d x i m h) solved

pub row_from_equation : (q : Problem) (d : Dictionary) (x : ℕ → Fraction) (i m : ℕ) → 0 < m
    → CommonRow (columns q) d x i m → RowEquation (columns q) d x i m → SolvesRow (columns q) d x i
row_from_equation q d x i m some h e =
    same_from_over (m * m) _ _ _ _ (product_positive m m some some) (lhs_of (columns q) d x i m h)
    (right_side (columns q) d x i m h) e

-- ---- the places after a pivot, over m

-- a quotient over m
pub quotient_over : (m : ℕ) (a p f : Fraction) → 0 < f.den → 0 < p.den → a.den ∣ m → p.den ∣ m → f.den ∣ m → 0 < a.den
    → quotient_of a p ≡ Some f → over m a *ℤ pos m ≡ over m f *ℤ over m p
quotient_over m a p f hf hp da dp df ha e =
    let same : SameRational a (rational_product f p) = record { cross = quotient_of-is a p f e } in
    let product = over_product m m f p (over m f) (over m p) (over_is m f df) (over_is m p dp) in
    over_unique (m * m) a (over m a *ℤ pos m) (over m f *ℤ over m p) ha (over_more m m a (over m a) (over_is m a da))
    (over_same (m * m) a (rational_product f p) (over m f *ℤ over m p)
    (product_positive f.den p.den hf hp) same product)

one_over : (m : ℕ) → IsOver m (whole_fraction (pos 1)) (pos m)
one_over m = record { scaled = omega (arith, ints) }

pub one_quotient_over : (m : ℕ) (p f : Fraction) → 0 < f.den → 0 < p.den → p.den ∣ m → f.den ∣ m
    → quotient_of (whole_fraction (pos 1)) p ≡ Some f → pos m *ℤ pos m ≡ over m f *ℤ over m p
one_quotient_over m p f hf hp dp df e =
    let same : SameRational (whole_fraction (pos 1)) (rational_product f p) =
    record { cross = quotient_of-is (whole_fraction (pos 1)) p f e } in
    let product = over_product m m f p (over m f) (over m p) (over_is m f df) (over_is m p dp) in
    over_unique (m * m) (whole_fraction (pos 1)) (pos m *ℤ pos m) (over m f *ℤ over m p) (omega arith)
    (over_more m m (whole_fraction (pos 1)) (pos m) (one_over m))
    (over_same (m * m) (whole_fraction (pos 1)) (rational_product f p) (over m f *ℤ over m p)
    (product_positive f.den p.den hf hp) same product)

product_over : (m : ℕ) (e f t : Fraction) → 0 < e.den → 0 < f.den → e.den ∣ m → f.den ∣ m → product_of e f ≡ Some t
    → IsOver (m * m) t (over m e *ℤ over m f)
product_over m e f t he hf de df h =
    over_same (m * m) t (rational_product e f) (over m e *ℤ over m f) (product_positive e.den f.den he hf)
    (record { cross = product_of-is e f t h })
    (over_product m m e f (over m e) (over m f) (over_is m e de) (over_is m f df))

pub negated_over : (m : ℕ) (e f t v : Fraction) → 0 < e.den → 0 < f.den → 0 < v.den → e.den ∣ m → f.den ∣ m → v.den ∣ m
    → product_of e f ≡ Some t → v ≡ negated t → over m v *ℤ pos m ≡ neg_ℤ (over m e *ℤ over m f)
negated_over m e f t v he hf hv de df dv h is =
    let value : IsOver (m * m) v (neg_ℤ (over m e *ℤ over m f)) =
    subst (λ g. IsOver (m * m) g (neg_ℤ (over m e *ℤ over m f))) (sym is)
    (over_negated (m * m) t (over m e *ℤ over m f) (product_over m e f t he hf de df h)) in
    over_unique (m * m) v _ _ hv (over_more m m v (over m v) (over_is m v dv)) value

pub difference_over : (m : ℕ) (e f t x v : Fraction) → 0 < e.den → 0 < f.den → 0 < x.den → 0 < v.den → e.den ∣ m
    → f.den ∣ m → x.den ∣ m → v.den ∣ m → product_of e f ≡ Some t → difference_of x t ≡ Some v
    → over m v *ℤ pos m ≡ over m x *ℤ pos m -ℤ over m e *ℤ over m f
difference_over m e f t x v he hf hx hv de df dx dv h k =
    let product = product_over m e f t he hf de df h in
    let taken = over_difference (m * m) x t (over m x *ℤ pos m) (over m e *ℤ over m f)
    (over_more m m x (over m x) (over_is m x dx)) product in
    let positive = product_positive x.den t.den hx (product_of-positive e f t he hf h) in
    over_unique (m * m) v _ _ hv (over_more m m v (over m v) (over_is m v dv))
    (over_same (m * m) v (rational_difference x t) _ positive (record { cross = difference_of-is x t v k }) taken)
