-- A rational point and the same point times a common denominator.
use Rattle.std.proofs.Common.{◌≡◌, ◌≢◌, ◌^◌, ◌-ℤ◌, ℕ, zero, suc, ◌+◌, ◌*◌, ◌/◌, ◌<◌, ◌≤◌, ◌↔◌, ℤ, pos, ◌+ℤ◌, ◌*ℤ◌, ◌≤ℤ◌}
use Rattle.std.proofs.Common.{◌<ℤ◌, List, length, refl, sym, ap, ◌∙◌, subst, arith}
use Rattle.std.specs.Int.{◌∣◌}
use Rattle.std.proofs.Math.Nat.{div-mul_cancel}
use Rattle.std.proofs.Math.IntN.{*ℤ_comm, pos-*ℤ-pos}
use Rattle.std.proofs.lemmas.Int.{ints}
use Rattle.bl_whole.specs.Sums.{component, sum_below, dot}
use Rattle.bl_whole.proofs.SumLemmas.{sum_below-agree}
use Rattle.bl_whole.proofs.Products.{*ℤ_assoc, *ℤ_one, mul_le_left, le_of_mul_le}
use Rattle.std.specs.Prelude.{Option, Some, None, MatchOption}
use Rattle.bl_limits.specs.declared.TheConstants.{MAX_PROOF_NUMBER}
use Rattle.bl_terms.specs.Bounds.{Problem, Fits, linear_at}
use Rattle.bl_simplex.specs.Fractions.{Fraction, whole_fraction}
use Rattle.bl_simplex.specs.Rationals.{rational_sum, rational_product, rational_total, IsAtMost, times_multiple}
use Rattle.bl_simplex.specs.Rationals.{fraction_at, common_denominator}
use Rattle.bl_simplex.specs.Dictionaries.{columns, start_at, sign_at}
use Rattle.bl_simplex.specs.Licences.{moved, rational_dot, IsBelowCutoff, IsFractional}
use Rattle.bl_frac.proofs.Ratios.{product_positive}
use Rattle.bl_tableau.proofs.Scaling.{IsOver, over_sum, over_product, over_total, over_whole, over_multiple}
use Rattle.bl_tableau.proofs.Scaling.{over_scaled}
use Rattle.bl_tableau.proofs.RowEquations.{total_positive}
use Rattle.bl_tableau.specs.Cells.{AreReduced}
use Rattle.bl_licence.specs.Steps.{scaled_column, IsScaledPoint, IsBetween}
use Rattle.bl_licence.proofs.Multiples.{common_positive, common_divides, dens_positive}

-- column j over the common denominator
column_over : (q : Problem) (m : ℕ) (f : ℕ → Fraction) (j : ℕ) → (f j).den ∣ m
    → IsOver m (moved q f j) (scaled_column q m f j)
column_over q m f j h =
    over_sum m (whole_fraction (start_at q j)) (rational_product (whole_fraction (sign_at q j)) (f j))
    (start_at q j *ℤ pos m) (sign_at q j *ℤ times_multiple m (f j))
    (over_whole m (start_at q j)) (over_scaled m (sign_at q j) (f j) (times_multiple m (f j)) (over_multiple m (f j) h))

column_positive : (q : Problem) (f : ℕ → Fraction) (j : ℕ) → 0 < (f j).den → 0 < (moved q f j).den
column_positive q f j h = omega arith

dot_positive : (q : Problem) (cs : List ℤ) (f : ℕ → Fraction) → ((j : ℕ) → j < length cs → 0 < (f j).den)
    → 0 < (rational_dot cs (moved q f)).den
dot_positive q cs f h =
    total_positive (length cs) (λ j. rational_product (whole_fraction (component cs j)) (moved q f j))
    (λ j l. let p = column_positive q f j (h j l) in omega arith)

dot_over : (q : Problem) (m : ℕ) (cs : List ℤ) (f : ℕ → Fraction) → ((j : ℕ) → j < length cs → (f j).den ∣ m)
    → IsOver m (rational_dot cs (moved q f)) (sum_below (length cs) (λ j. component cs j *ℤ scaled_column q m f j))
dot_over q m cs f h =
    over_total m (length cs) (λ j. rational_product (whole_fraction (component cs j)) (moved q f j))
    (λ j. component cs j *ℤ scaled_column q m f j)
    (λ j l. over_scaled m (component cs j) (moved q f j) (scaled_column q m f j) (column_over q m f j (h j l)))

swapped : (b d m : ℤ) → m *ℤ (b *ℤ d) ≡ d *ℤ (b *ℤ m)
swapped b d m = sym (*ℤ_assoc m b d) ∙ ap (λ z. z *ℤ d) (*ℤ_comm m b) ∙ *ℤ_comm (b *ℤ m) d

-- a fraction that is z / m is at most b exactly where z is at most b · m
pub at_most_over : (m : ℕ) (f : Fraction) (z b : ℤ) → 0 < m → 0 < f.den → IsOver m f z
    → IsAtMost f b ↔ (z ≤ℤ (b *ℤ pos m))
at_most_over m f z b hm hf over =
    let some : pos 0 <ℤ pos m = omega (arith, ints) in
    let some' : pos 0 <ℤ pos f.den = omega (arith, ints) in
    let weak : pos 0 ≤ℤ pos m = omega (arith, ints) in
    let weak' : pos 0 ≤ℤ pos f.den = omega (arith, ints) in
    let turned : pos m *ℤ f.num ≡ pos f.den *ℤ z = *ℤ_comm (pos m) f.num ∙ over.scaled ∙ *ℤ_comm z (pos f.den) in
    let sides : pos m *ℤ (b *ℤ pos f.den) ≡ pos f.den *ℤ (b *ℤ pos m) = swapped b (pos f.den) (pos m) in (
      λ h.
          let up : (pos m *ℤ f.num) ≤ℤ (pos m *ℤ (b *ℤ pos f.den)) = mul_le_left (pos m) weak h.cross in
          le_of_mul_le (pos f.den) some' (omega (arith, ints)),
      λ l.
          let up : (pos f.den *ℤ z) ≤ℤ (pos f.den *ℤ (b *ℤ pos m)) = mul_le_left (pos f.den) weak' l in
          let low : (pos m *ℤ f.num) ≤ℤ (pos m *ℤ (b *ℤ pos f.den)) = omega (arith, ints) in
          record { cross = le_of_mul_le (pos m) some low },
    )

-- the value of coefficients at the rational point, and at the scaled one
pub dot_at_most : (q : Problem) (m : ℕ) (cs xs : List ℤ) (f : ℕ → Fraction) (b : ℤ) → 0 < m → length cs ≡ columns q
    → ((j : ℕ) → j < columns q → (f j).den ∣ m) → ((j : ℕ) → j < columns q → 0 < (f j).den) → IsScaledPoint q m f xs
    → IsAtMost (rational_dot cs (moved q f)) b ↔ (dot cs xs ≤ℤ (b *ℤ pos m))
dot_at_most q m cs xs f b hm size divides positive point =
    let same : dot cs xs ≡ sum_below (length cs) (λ j. component cs j *ℤ scaled_column q m f j) =
    sum_below-agree (length cs) (λ j. component cs j *ℤ component xs j) (λ j. component cs j *ℤ scaled_column q m f j)
    (λ j l. ap (λ z. component cs j *ℤ z) (point.each j (omega arith))) in
    let over = at_most_over m (rational_dot cs (moved q f))
    (sum_below (length cs) (λ j. component cs j *ℤ scaled_column q m f j)) b hm
    (dot_positive q cs f (λ j l. positive j (omega arith))) (dot_over q m cs f (λ j l. divides j (omega arith))) in (
      λ h. subst (λ z. z ≤ℤ (b *ℤ pos m)) (sym same) (over.0 h),
      λ l. over.1 (subst (λ z. z ≤ℤ (b *ℤ pos m)) same l),
    )

-- ---- what the test of a fractional point computes

pub record Setting (q : Problem) (fs : List Fraction) (m : ℕ) (xs : List ℤ) : Type 0 where
  pub fits : Fits q
  pub size : length fs ≡ columns q
  pub reduced : AreReduced fs
  pub multiple : m ≡ common_denominator (length fs) (fraction_at fs)
  pub point : IsScaledPoint q m (fraction_at fs) xs

some_multiple : (q : Problem) (fs : List Fraction) (m : ℕ) (xs : List ℤ) → Setting q fs m xs → 0 < m
some_multiple q fs m xs s =
    subst (λ n. 0 < n) (sym s.multiple) (common_positive (length fs) (fraction_at fs) (dens_positive fs s.reduced))

each_divides : (fs : List Fraction) (m n : ℕ) → length fs ≡ n → m ≡ common_denominator (length fs) (fraction_at fs)
    → (j : ℕ) → j < n → (fraction_at fs j).den ∣ m
each_divides fs m n size e j l =
    subst (λ k. (fraction_at fs j).den ∣ k) (sym e) (common_divides (length fs) (fraction_at fs) j (omega arith))

pub divides_each : (q : Problem) (fs : List Fraction) (m : ℕ) → length fs ≡ columns q
    → m ≡ common_denominator (length fs) (fraction_at fs) → (j : ℕ) → j < columns q → (fraction_at fs j).den ∣ m
divides_each q fs m size e = each_divides fs m (columns q) size e

value_test : (q : Problem) (fs : List Fraction) (m : ℕ) (xs cs : List ℤ) (b : ℤ) → Setting q fs m xs
    → length cs ≡ columns q
    → IsAtMost (rational_dot cs (moved q (fraction_at fs))) b ↔ (dot cs xs ≤ℤ (b *ℤ pos m))
value_test q fs m xs cs b s size =
    dot_at_most q m cs xs (fraction_at fs) b (some_multiple q fs m xs s) size (divides_each q fs m s.size s.multiple)
    (λ j l. let e = s.size in dens_positive fs s.reduced j (omega arith)) s.point

abbrev pub RowsPass : Problem → ℕ → List ℤ → Type 0
RowsPass q m xs = (i : ℕ) → i < length q.rows → dot (linear_at q.rows i).coef xs ≤ℤ ((linear_at q.rows i).rhs *ℤ pos m)

abbrev pub CostPasses : Problem → Option ℤ → ℕ → List ℤ → Type 0
CostPasses q u m xs = MatchOption u (Unit {0}) (λ v. dot q.cost xs ≤ℤ ((v -ℤ pos 1) *ℤ pos m))

pub cost_from_test : (q : Problem) (u : Option ℤ) (fs : List Fraction) (m : ℕ) (xs : List ℤ) → Setting q fs m xs
    → CostPasses q u m xs → IsBelowCutoff u (rational_dot q.cost (moved q (fraction_at fs)))
cost_from_test q None fs m xs s h = tt
cost_from_test q (Some v) fs m xs s h = (value_test q fs m xs q.cost (v -ℤ pos 1) s s.fits.shape.cost_columns).1 h

pub cost_to_test : (q : Problem) (u : Option ℤ) (fs : List Fraction) (m : ℕ) (xs : List ℤ) → Setting q fs m xs
    → IsBelowCutoff u (rational_dot q.cost (moved q (fraction_at fs))) → CostPasses q u m xs
cost_to_test q None fs m xs s h = tt
cost_to_test q (Some v) fs m xs s h = (value_test q fs m xs q.cost (v -ℤ pos 1) s s.fits.shape.cost_columns).0 h

pub rows_to_test : (q : Problem) (u : Option ℤ) (fs : List Fraction) (m : ℕ) (xs : List ℤ) → Setting q fs m xs
    → IsFractional q u fs → RowsPass q m xs
rows_to_test q u fs m xs s h =
    λ i l. (value_test q fs m xs (linear_at q.rows i).coef (linear_at q.rows i).rhs s (s.fits.shape.row_columns i l)).0
    (h.rows i l)

abbrev pub Between : Problem → List Fraction → Type 0
Between q fs = (j : ℕ) → j < columns q → IsBetween (component q.area.hi j -ℤ component q.area.lo j) (fraction_at fs j)

pub fractional_from_test : (q : Problem) (u : Option ℤ) (fs : List Fraction) (m : ℕ) (xs : List ℤ) → Setting q fs m xs
    → Between q fs → (j : ℕ) × (j < length fs) × ((fraction_at fs j).den ≢ 1)
    → m ≤ 2 ^ 50 → RowsPass q m xs → CostPasses q u m xs → IsFractional q u fs
fractional_from_test q u fs m xs s between some small rows cost = record {
  size = s.size;
  reduced = λ j l. let e = s.size in s.reduced.each j (omega arith);
  not_whole = (some.0, (let e = s.size in let h = some.1 in omega arith), some.2);
  least = λ j l. (between j l).0;
  most = λ j l. (between j l).1;
  common = subst (λ n. pos (common_denominator n (fraction_at fs)) ≤ℤ MAX_PROOF_NUMBER) s.size
      (subst (λ n. pos n ≤ℤ MAX_PROOF_NUMBER) s.multiple (omega (arith, ints)));
  rows = λ i l. (value_test q fs m xs (linear_at q.rows i).coef (linear_at q.rows i).rhs s
      (s.fits.shape.row_columns i l)).1 (rows i l);
  cost = cost_from_test q u fs m xs s cost;
}
