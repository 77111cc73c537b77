-- The inverse of the kept rows' coefficients.
use Rattle.std.proofs.Common.{◌≡◌, ◌≢◌, ℕ, zero, suc, ◌+◌, ◌<◌, ◌≤◌, ◌^◌, ◌⊎◌, inl, inr, List, [], ◌∷◌, length}
use Rattle.std.proofs.Common.{ℤ, pos, neg_ℤ, ◌+ℤ◌, ◌*ℤ◌, ◌≤ℤ◌, refl, sym, ap, ◌∙◌, subst, arith}
use Rattle.std.proofs.Common.{nat_eq, true, false, Bool, unsigned_abs}
use Rattle.std.specs.Prelude.{slice_index, if◌then◌else◌}
use Rattle.std.specs.Ordering.{int_eq}
use Rattle.std.proofs.lemmas.Int.{ints}
use Rattle.std.proofs.lemmas.Bool.{cases_eq, leb-true}
use Rattle.std.proofs.lemmas.Bool.Decides.{nat_tests, Decides-int_eq}
use Rattle.bl_limits.specs.declared.TheConstants.{MAX_PROOF_NUMBER}
use Rattle.bl_whole.specs.Sums.{component, sum_below}
use Rattle.bl_whole.proofs.SumLemmas.{sum_below-agree, sum_below_front}
use Rattle.bl_terms.specs.Points.{Linear}
use Rattle.bl_terms.specs.Bounds.{linear_at}
use Rattle.bl_simplex.specs.Fractions.{Fraction}
use Rattle.bl_simplex.specs.Rationals.{fraction_at}
use Rattle.bl_cut_terms.specs.NoGoods.{IsUnitFrom, combined}
use Rattle.bl_tableau.proofs.Scaling.{cancel}
use Rattle.bl_elimination.specs.Elimination.{Kept, row_of, nonzeros, within_limit}
use Rattle.bl_elimination.proofs.RowLists.{row_at}
use Rattle.bl_elimination.proofs.Values.{IsWhole}
use Rattle.bl_elimination.proofs.Bijections.{AreDifferent}
use Rattle.bl_elimination.proofs.Standing.{Stands, slot_own, slot_other}

-- ---- unit lists

-- a number is within the limit
pub limit_is : (z : ℤ) → within_limit z ≡ true → unsigned_abs z ≤ 2 ^ 50
limit_is z h = leb-true (unsigned_abs z) (2 ^ 50) h

size_bounds : (z : ℤ) → unsigned_abs z ≤ 2 ^ 50 → (neg_ℤ MAX_PROOF_NUMBER ≤ℤ z) × (z ≤ℤ MAX_PROOF_NUMBER)
size_bounds z h = (omega (arith, ints, h), omega (arith, ints, h))

int_eq-true : (z : ℤ) → int_eq z (pos 0) ≡ true → z ≡ pos 0
int_eq-true z h = grind (arith, Decides-int_eq)

int_eq-false : (z : ℤ) → int_eq z (pos 0) ≡ false → z ≢ pos 0
int_eq-false z h = grind (arith, Decides-int_eq)

unit_later : (least more n : ℕ) (unit : List (ℕ × ℤ)) → more ≤ least → IsUnitFrom least n unit → IsUnitFrom more n unit
unit_later least more n [] l h = tt
unit_later least more n ((i, m) ∷ unit) l h =
    ((omega (arith, h.0.0, l), h.0.1, h.0.2, h.0.3, h.0.4), h.1)

pub nonzeros_are_unit : (t n : ℕ) (ms : List ℤ) → t + length ms ≤ n
    → ((k : ℕ) → k < length ms → unsigned_abs (component ms k) ≤ 2 ^ 50) → IsUnitFrom t n (nonzeros t ms)
nonzeros_are_unit t n [] l small = tt
nonzeros_are_unit t n (m ∷ ms) l small =
    by (int_eq m (pos 0)) refl (nonzeros_are_unit (suc t) n ms (omega arith) (λ k b. small (suc k) (omega arith)))
  where
    by : (b : Bool) → int_eq m (pos 0) ≡ b → IsUnitFrom (suc t) n (nonzeros (suc t) ms)
        → IsUnitFrom t n (if b then nonzeros (suc t) ms else (t, m) ∷ nonzeros (suc t) ms)
    by true e rest = unit_later (suc t) t n (nonzeros (suc t) ms) (omega arith) rest
    by false e rest =
        let bounds = size_bounds m (small 0 (omega arith)) in
        ((omega arith, omega arith, int_eq-false m e, bounds.0, bounds.1), rest)

no_term : (a b s : ℤ) → a ≡ pos 0 → a *ℤ b +ℤ s ≡ s
no_term a b s e = ap (λ z. z *ℤ b +ℤ s) e ∙ omega (arith, ints)

-- what a unit list combines, as a sum over all places
pub combined_sum : (rows : List Linear) (k t : ℕ) (ms : List ℤ)
    → combined rows (nonzeros t ms) k
    ≡ sum_below (length ms) (λ s. component ms s *ℤ component (linear_at rows (t + s)).coef k)
combined_sum rows k t [] = refl
combined_sum rows k t (m ∷ ms) =
    by (int_eq m (pos 0)) refl (combined_sum rows k (suc t) ms)
    ∙ sym (sum_below_front (length ms) (λ s. component (m ∷ ms) s *ℤ component (linear_at rows (t + s)).coef k))
  where
    first : m *ℤ component (linear_at rows t).coef k ≡ component (m ∷ ms) 0 *ℤ component (linear_at rows (t + 0)).coef k
    first = ap (λ s. m *ℤ component (linear_at rows s).coef k) (omega arith)

    later : sum_below (length ms) (λ s. component ms s *ℤ component (linear_at rows (suc t + s)).coef k)
        ≡ sum_below (length ms) (λ s. component (m ∷ ms) (suc s) *ℤ component (linear_at rows (t + suc s)).coef k)
    later = sum_below-agree (length ms) _ _
        (λ s l. ap (λ i. component ms s *ℤ component (linear_at rows i).coef k) (omega arith))

    by : (b : Bool) → int_eq m (pos 0) ≡ b
        → combined rows (nonzeros (suc t) ms) k
        ≡ sum_below (length ms) (λ s. component ms s *ℤ component (linear_at rows (suc t + s)).coef k)
        → combined rows (if b then nonzeros (suc t) ms else (t, m) ∷ nonzeros (suc t) ms) k
        ≡ component (m ∷ ms) 0 *ℤ component (linear_at rows (t + 0)).coef k
        +ℤ sum_below (length ms) (λ s. component (m ∷ ms) (suc s) *ℤ component (linear_at rows (t + suc s)).coef k)
    by true e rest =
        rest ∙ later ∙ sym (no_term m (component (linear_at rows (t + 0)).coef k) _ (int_eq-true m e))
    by false e rest =
        ap (λ z. m *ℤ component (linear_at rows t).coef k +ℤ z) (rest ∙ later)
        ∙ ap (λ z. z +ℤ sum_below (length ms)
        (λ s. component (m ∷ ms) (suc s) *ℤ component (linear_at rows (t + suc s)).coef k)) first

-- ---- the rows by their pivot columns

test_same : (m n : ℕ) → m ≡ n → nat_eq m n ≡ true
test_same m n h = grind (arith, nat_tests)

test_other : (m n : ℕ) → m ≢ n → nat_eq m n ≡ false
test_other m n h = grind (arith, nat_tests)

pub row_of_at : (columns : List ℕ) (rows : List (List Fraction)) (j i : ℕ) → i < length columns → i < length rows
    → slice_index columns i ≡ j → ((k : ℕ) → k < i → slice_index columns k ≢ j) → row_of columns rows j ≡ row_at rows i
row_of_at [] rows j i l b e earlier = absurd (omega arith)
row_of_at (c ∷ columns) [] j i l b e earlier = absurd (omega arith)
row_of_at (c ∷ columns) (row ∷ rows) j zero l b e earlier = rw (test_same c j e) refl
row_of_at (c ∷ columns) (row ∷ rows) j (suc i) l b e earlier =
    rw (test_other c j (earlier 0 (omega arith)))
    (row_of_at columns rows j i (omega arith) (omega arith) e (λ k m. earlier (suc k) (omega arith)))

-- pivot columns are different
one_is_not_zero : (f : Fraction) → 0 < f.den → IsWhole f (pos 1) → IsWhole f (pos 0) → ⊥
one_is_not_zero f some one none =
    let e : pos 1 *ℤ pos f.den ≡ pos 0 *ℤ pos f.den = sym one.is ∙ none.is in
    let same : pos 1 ≡ pos 0 = cancel (pos 1) (pos 0) f.den some e in
    omega (arith, ints, same)

pub columns_differ : (n : ℕ) (c : ℕ → ℕ → ℤ) (kept : Kept) → Stands n c kept → length kept.rows ≡ n
    → AreDifferent n (slice_index kept.columns)
columns_differ n c kept s all = record {
  below = λ i l. s.columns_in i (omega (arith, all, l));
  different = λ i j l b same. by i j (omega (arith, all, l)) (omega (arith, all, b)) same (cases_eq j i);
}
  where
    by : (i j : ℕ) → i < length kept.rows → j < length kept.rows → slice_index kept.columns i
        ≡ slice_index kept.columns j
        → (j ≡ i) ⊎ (j ≢ i) → i ≡ j
    by i j l b same (inl e) = sym e
    by i j l b same (inr other) =
        let row = row_at kept.rows i in
        let one = subst (IsWhole (fraction_at row (slice_index kept.columns i))) (slot_own i) (s.units i i l l) in
        let none = subst (IsWhole (fraction_at row (slice_index kept.columns j))) (slot_other i j other)
        (s.units i j l b) in
        let here = subst (λ k. IsWhole (fraction_at row k) (pos 0)) (sym same) none in
        absurd (one_is_not_zero (fraction_at row (slice_index kept.columns i))
        ((s.rows i l).positive (slice_index kept.columns i) (omega (arith, s.columns_in i l))) one here)
