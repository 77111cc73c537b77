-- The rows of the opening dictionary at rational values, over a common multiple of the columns' denominators.
use Rattle.std.proofs.Common.{◌≡◌, ◌≢◌, ℕ, zero, suc, ◌+◌, ◌*◌, ◌/◌, ◌<◌, ◌≤◌, Bool, true, false, cond, List, [], ◌∷◌}
use Rattle.std.proofs.Common.{length}
use Rattle.std.proofs.Common.{ℤ, pos, negsuc, neg_ℤ, ◌+ℤ◌, ◌-ℤ◌, ◌*ℤ◌, ◌≤ℤ◌, ◌<ℤ◌, unsigned_abs, refl, sym, ap, ◌∙◌}
use Rattle.std.proofs.Common.{subst, arith}
use Rattle.std.specs.Prelude.{int_lt}
use Rattle.std.specs.Int.{◌∣◌}
use Rattle.std.proofs.Math.Nat.{div-mul_cancel}
use Rattle.std.proofs.Math.IntN.{*ℤ_comm, zero-*ℤ, pos-*ℤ-pos}
use Rattle.std.proofs.lemmas.Int.{ints}
use Rattle.bl_frac.proofs.Ratios.{not_below_zero}
use Rattle.bl_whole.specs.Sums.{component, sum_below}
use Rattle.bl_whole.specs.Identities.{variable, constant, plus, times}
use Rattle.bl_whole.proofs.IdentityLemmas.{identity}
use Rattle.bl_whole.proofs.Products.{*ℤ_assoc, *ℤ_one, one-*ℤ, -ℤ-*ℤ, neg_ℤ-*ℤ, mul_nonneg, le_of_mul_le}
use Rattle.bl_whole.proofs.SumLemmas.{sum_below-agree}
use Rattle.bl_terms.specs.Bounds.{Problem, linear_at}
use Rattle.bl_simplex.specs.Fractions.{Fraction, whole_fraction}
use Rattle.bl_simplex.specs.Rationals.{rational_difference, rational_product, rational_total, times_multiple, IsAtMost}
use Rattle.bl_simplex.specs.Dictionaries.{columns, cost_row, descends, start_at, sign_at, at_start, opening_number}
use Rattle.bl_simplex.specs.Dictionaries.{opening}
use Rattle.bl_tableau.specs.Solutions.{SolvesRow}
use Rattle.bl_tableau.proofs.Scaling.{IsOver, over_difference, over_product, over_total, over_same}
use Rattle.bl_tableau.proofs.Scaling.{over_whole, over_multiple, over_scaled}
use Rattle.bl_tableau.proofs.RowEquations.{product_positive, total_positive}
use Rattle.bl_tableau.proofs.OpeningSteps.{entry_of_row, right_of_row, entry_of_range, right_of_range, entry_of_cost}
use Rattle.bl_tableau.proofs.OpeningSteps.{right_of_cost}
use Rattle.bl_tableau.proofs.RowSteps.{test_same, test_other}
use Rattle.bl_licence.specs.Steps.{scaled_column}
use Rattle.bl_licence.proofs.Points.{at_most_over}
use Rattle.bl_duality.proofs.Regroup.{sum_of_one}

-- ---- fractions over a common multiple

-- ---- coefficients at columns that are moved from their starts

moved_sum : (n : ℕ) (c s g x : ℕ → ℤ) (m : ℤ)
    → sum_below n (λ j. c j *ℤ (s j *ℤ m +ℤ g j *ℤ x j))
    ≡ sum_below n (λ j. c j *ℤ s j) *ℤ m +ℤ sum_below n (λ j. (c j *ℤ g j) *ℤ x j)
moved_sum zero c s g x m =
    identity (m ∷ []) (constant (pos 0)) (plus (times (constant (pos 0)) (variable 0)) (constant (pos 0))) refl
moved_sum (suc n) c s g x m =
    let a = sum_below n (λ j. c j *ℤ s j) in
    let b = sum_below n (λ j. (c j *ℤ g j) *ℤ x j) in
    let v0 = variable 0 in
    let v1 = variable 1 in
    let v2 = variable 2 in
    let v3 = variable 3 in
    let v4 = variable 4 in
    let v5 = variable 5 in
    let v6 = variable 6 in
    ap (λ z. z +ℤ c n *ℤ (s n *ℤ m +ℤ g n *ℤ x n)) (moved_sum n c s g x m)
    ∙ identity (a ∷ m ∷ b ∷ c n ∷ s n ∷ g n ∷ x n ∷ [])
    (plus (plus (times v0 v1) v2) (times v3 (plus (times v4 v1) (times v5 v6))))
    (plus (times (plus v0 (times v3 v4)) v1) (plus v2 (times (times v3 v5) v6))) refl

-- a magnitude is the number in the direction of its sign
abs_by_sign : (t : Bool) (z : ℤ) → int_lt z (pos 0) ≡ t → pos (unsigned_abs z) ≡ z *ℤ cond t (negsuc 0) (pos 1)
abs_by_sign true (pos n) e = absurd (not_below_zero n e)
abs_by_sign true (negsuc n) e =
    let h = neg_ℤ-*ℤ (pos 1) (negsuc n) in
    let o = one-*ℤ (negsuc n) in
    let turned = *ℤ_comm (negsuc n) (negsuc 0) in
    omega (arith, ints)
abs_by_sign false (pos n) e =
    let o = one-*ℤ (pos n) in
    let turned = *ℤ_comm (pos n) (pos 1) in
    omega (arith, ints)
abs_by_sign false (negsuc n) e = cc

turned_product : (a x : ℤ) → neg_ℤ a *ℤ x ≡ neg_ℤ (a *ℤ x)
turned_product a x = neg_ℤ-*ℤ a x

-- a fraction over a positive number that isn't negative
over_least : (m : ℕ) (f : Fraction) (z : ℤ) → 0 < m → 0 < f.den → IsOver m f z → pos 0 ≤ℤ f.num → pos 0 ≤ℤ z
over_least m f z hm hf h least =
    let some : pos 0 <ℤ pos f.den = omega (arith, ints) in
    let up : pos 0 ≤ℤ (f.num *ℤ pos m) = mul_nonneg least (omega (arith, ints)) in
    let e = h.scaled in
    let turned = *ℤ_comm z (pos f.den) in
    let none = zero-*ℤ (pos f.den) in
    let swapped = *ℤ_comm (pos f.den) (pos 0) in
    le_of_mul_le (pos f.den) some (omega (arith, ints))

sum_negated : (n : ℕ) (f : ℕ → ℤ) → sum_below n (λ j. neg_ℤ (f j)) ≡ neg_ℤ (sum_below n f)
sum_negated zero f = refl
sum_negated (suc n) f = let e = sum_negated n f in omega (arith, ints)

-- the values solve the opening dictionary, and m is a common multiple of the columns' denominators
pub record IsOpened (q : Problem) (x : ℕ → Fraction) (m : ℕ) : Type 0 where
  pub some : 0 < m
  pub positive : (l : ℕ) → l ≤ columns q + cost_row q → 0 < (x l).den
  pub divides : (j : ℕ) → j < columns q → (x j).den ∣ m
  pub solved : (i : ℕ) → i ≤ cost_row q → SolvesRow (columns q) (opening q) x i

-- the value of coefficients at the columns, times m
abbrev pub scaled_value : Problem → (ℕ → Fraction) → ℕ → List ℤ → ℤ
scaled_value q x m cs = sum_below (columns q) (λ j. component cs j *ℤ scaled_column q m x j)

module _ (q : Problem) (x : ℕ → Fraction) (m : ℕ) (o : IsOpened q x m) where
  row_over : (i : ℕ) → i ≤ cost_row q
      → IsOver m (x (columns q + i))
      (opening_number q i (columns q) *ℤ pos m
      -ℤ sum_below (columns q) (λ j. opening_number q i j *ℤ times_multiple m (x j)))
  unfolding opening
  row_over i hi =
      let n = columns q in
      let a : ℕ → ℤ = opening_number q i in
      let part : ℕ → Fraction = λ j. rational_product (whole_fraction (a j)) (x j) in
      let positive : 0 < (rational_total n part).den =
      total_positive n part (λ j l. let p = o.positive j (omega arith) in omega arith) in
      over_same m (x (n + i)) (rational_difference (whole_fraction (a n)) (rational_total n part)) _ (omega arith)
      (o.solved i hi)
      (over_difference m (whole_fraction (a n)) (rational_total n part) (a n *ℤ pos m)
      (sum_below n (λ j. a j *ℤ times_multiple m (x j))) (over_whole m (a n))
      (over_total m n part (λ j. a j *ℤ times_multiple m (x j))
      (λ j l. over_scaled m (a j) (x j) (times_multiple m (x j)) (over_multiple m (x j) (o.divides j l)))))

  row_least : (i : ℕ) → i ≤ cost_row q → pos 0 ≤ℤ (x (columns q + i)).num
      → sum_below (columns q) (λ j. opening_number q i j *ℤ times_multiple m (x j))
      ≤ℤ (opening_number q i (columns q) *ℤ pos m)
  row_least i hi least =
      let v = over_least m (x (columns q + i)) _ o.some (o.positive (columns q + i) (omega arith)) (row_over i hi)
      least in
      omega (arith, ints)

  scaled_is : (cs : List ℤ) → length cs ≡ columns q
      → scaled_value q x m cs ≡ at_start q cs *ℤ pos m
      +ℤ sum_below (columns q) (λ j. (component cs j *ℤ sign_at q j) *ℤ times_multiple m (x j))
  scaled_is cs size =
      moved_sum (columns q) (component cs) (start_at q) (sign_at q) (λ j. times_multiple m (x j)) (pos m)
      ∙ ap (λ n. sum_below n (λ j. component cs j *ℤ start_at q j) *ℤ pos m
      +ℤ sum_below (columns q) (λ j. (component cs j *ℤ sign_at q j) *ℤ times_multiple m (x j))) (sym size)

  -- a row whose slack isn't negative
  pub row_met : (i : ℕ) → i < length q.rows → length (linear_at q.rows i).coef ≡ columns q
      → pos 0 ≤ℤ (x (columns q + i)).num
      → scaled_value q x m (linear_at q.rows i).coef ≤ℤ ((linear_at q.rows i).rhs *ℤ pos m)
  row_met i hi size least =
      let row = linear_at q.rows i in
      let sum = sum_below (columns q) (λ j. (component row.coef j *ℤ sign_at q j) *ℤ times_multiple m (x j)) in
      let h = row_least i (omega arith) least in
      let entries : sum_below (columns q) (λ j. opening_number q i j *ℤ times_multiple m (x j)) ≡ sum =
      sum_below-agree (columns q) _ _ (λ j l. ap (λ a. a *ℤ times_multiple m (x j)) (entry_of_row q i j hi l)) in
      let right : opening_number q i (columns q) *ℤ pos m ≡ row.rhs *ℤ pos m -ℤ at_start q row.coef *ℤ pos m =
      ap (λ a. a *ℤ pos m) (right_of_row q i hi) ∙ -ℤ-*ℤ row.rhs (at_start q row.coef) (pos m) in
      let value = scaled_is row.coef size in
      omega (arith, ints)

  -- a column whose room to the other end of its range isn't negative
  pub column_in_range : (k : ℕ) → k < columns q → pos 0 ≤ℤ (x (columns q + (length q.rows + k))).num
      → IsAtMost (x k) (component q.area.hi k -ℤ component q.area.lo k)
  column_in_range k hk least =
      let i = length q.rows + k in
      let f : ℕ → ℤ = λ j. opening_number q i j *ℤ times_multiple m (x j) in
      let h = row_least i (omega arith) least in
      let others : (j : ℕ) → j < columns q → j ≢ k → f j ≡ pos 0 = λ j l ne.
      let apart : i ≢ length q.rows + j = omega arith in
      ap (λ a. a *ℤ times_multiple m (x j))
      (entry_of_range q k j hk l ∙ ap (λ t. cond t (pos 1) (pos 0)) (test_other i (length q.rows + j) apart))
      ∙ zero-*ℤ (times_multiple m (x j)) in
      let own : f k ≡ times_multiple m (x k) =
      ap (λ a. a *ℤ times_multiple m (x k))
      (entry_of_range q k k hk hk ∙ ap (λ t. cond t (pos 1) (pos 0)) (test_same i))
      ∙ one-*ℤ (times_multiple m (x k)) in
      let sum : sum_below (columns q) f ≡ f k = sum_of_one (columns q) k f hk others in
      let right = ap (λ a. a *ℤ pos m) (right_of_range q k hk) in
      (at_most_over m (x k) (times_multiple m (x k)) (component q.area.hi k -ℤ component q.area.lo k) o.some
      (o.positive k (omega arith)) (over_multiple m (x k) (o.divides k hk))).1 (omega (arith, ints))

  -- the value of the cost row's variable
  pub cost_over : length q.cost ≡ columns q → IsOver m (x (columns q + cost_row q)) (scaled_value q x m q.cost)
  cost_over size =
      let n = columns q in
      let f : ℕ → ℤ = λ j. (component q.cost j *ℤ sign_at q j) *ℤ times_multiple m (x j) in
      let entries : sum_below n (λ j. opening_number q (cost_row q) j *ℤ times_multiple m (x j))
      ≡ neg_ℤ (sum_below n f) =
      sum_below-agree n _ _ (λ j l.
      ap (λ a. a *ℤ times_multiple m (x j))
      (entry_of_cost q j l ∙ ap neg_ℤ (abs_by_sign (descends q j) (component q.cost j) refl))
      ∙ turned_product (component q.cost j *ℤ sign_at q j) (times_multiple m (x j)))
      ∙ sum_negated n f in
      let right = ap (λ a. a *ℤ pos m) (right_of_cost q) in
      let value = scaled_is q.cost size in
      let same : opening_number q (cost_row q) n *ℤ pos m
      -ℤ sum_below n (λ j. opening_number q (cost_row q) j *ℤ times_multiple m (x j)) ≡ scaled_value q x m q.cost =
      omega (arith, ints) in
      subst (IsOver m (x (n + cost_row q))) same (row_over (cost_row q) (omega arith))
