-- The law of the replay, by induction on the pivots.
use Rattle.std.proofs.Common.{◌≡◌, ℕ, suc, ◌*◌, ◌<◌, ◌≤◌, ◌↔◌, inl, inr, List, [], ◌∷◌, length, pos, sym, subst, arith}
use Rattle.std.specs.Int.{◌∣◌}
use Rattle.std.proofs.Math.Nat.{dvd_trans, dvd-mul_right, dvd-mul_left, dvd-mul_left_of_dvd}
use Rattle.std.proofs.lemmas.Bool.{cases_eq, cases_lt}
use Rattle.std.proofs.lemmas.List.{get_or_past}
use Rattle.bl_terms.specs.Bounds.{Problem}
use Rattle.bl_simplex.specs.Fractions.{Fraction, whole_fraction}
use Rattle.bl_simplex.specs.Dictionaries.{Dictionary, columns, cost_row, opening}
use Rattle.bl_simplex.specs.Rationals.{fraction_at}
use Rattle.bl_simplex.specs.Pivots.{pivoted, IsNarrowPivot, replay, AllNarrow}
use Rattle.bl_tableau.specs.Solutions.{SolvesRow, Solves, AreRational, ReplayLaw}
use Rattle.bl_tableau.proofs.Scaling.{multiple, multiple_positive, dvd_multiple}
use Rattle.bl_tableau.proofs.PivotLaw.{ArePositive, positive_after}
use Rattle.bl_tableau.proofs.RowEquations.{ValuesPositive, product_positive}
use Rattle.bl_tableau.proofs.ReplayProof.{Setting, row_label_own, row_label_other, column_label_own, column_label_other}
use Rattle.bl_tableau.proofs.ReplayProof.{says_from_old, says_from_new, old_from_says, new_from_says, new_row_solved}
use Rattle.bl_tableau.proofs.ReplayProof.{old_row_solved}

-- the denominators at column k: of rows i and r before and after the pivot, and of the column's value
pub column_dens : Dictionary → Dictionary → ℕ → ℕ → (ℕ → Fraction) → ℕ → ℕ
column_dens d e r i x k =
    (d.place i k).den * ((d.place r k).den * ((e.place i k).den * ((e.place r k).den * (x (d.column_label k)).den)))

pub row_dens : Dictionary → ℕ → ℕ → (ℕ → Fraction) → ℕ
row_dens d r i x = (x (d.row_label i)).den * (x (d.row_label r)).den

pub common : ℕ → Dictionary → Dictionary → ℕ → ℕ → (ℕ → Fraction) → ℕ
common n d e r i x = multiple (suc n) (column_dens d e r i x) * row_dens d r i x

from_column : (n : ℕ) (d e : Dictionary) (r i : ℕ) (x : ℕ → Fraction) (k a : ℕ) → k ≤ n → a ∣ column_dens d e r i x k
    → a ∣ common n d e r i x
unfolding common
from_column n d e r i x k a h own =
    dvd_trans a own (dvd_trans (column_dens d e r i x k) (dvd_multiple (suc n) (column_dens d e r i x) k (omega arith))
    (dvd-mul_right (multiple (suc n) (column_dens d e r i x)) (row_dens d r i x)))

at_old_row : (d e : Dictionary) (r i : ℕ) (x : ℕ → Fraction) (k : ℕ) → (d.place i k).den ∣ column_dens d e r i x k
unfolding column_dens
at_old_row d e r i x k = dvd-mul_right (d.place i k).den _

at_old_pivot : (d e : Dictionary) (r i : ℕ) (x : ℕ → Fraction) (k : ℕ) → (d.place r k).den ∣ column_dens d e r i x k
unfolding column_dens
at_old_pivot d e r i x k = dvd-mul_left_of_dvd (d.place r k).den (dvd-mul_right (d.place r k).den _) (d.place i k).den

at_new_row : (d e : Dictionary) (r i : ℕ) (x : ℕ → Fraction) (k : ℕ) → (e.place i k).den ∣ column_dens d e r i x k
unfolding column_dens
at_new_row d e r i x k =
    let a = (e.place i k).den in
    dvd-mul_left_of_dvd a (dvd-mul_left_of_dvd a (dvd-mul_right a _) (d.place r k).den) (d.place i k).den

at_new_pivot : (d e : Dictionary) (r i : ℕ) (x : ℕ → Fraction) (k : ℕ) → (e.place r k).den ∣ column_dens d e r i x k
unfolding column_dens
at_new_pivot d e r i x k =
    let a = (e.place r k).den in
    dvd-mul_left_of_dvd a
    (dvd-mul_left_of_dvd a (dvd-mul_left_of_dvd a (dvd-mul_right a _) (e.place i k).den) (d.place r k).den)
    (d.place i k).den

at_value : (d e : Dictionary) (r i : ℕ) (x : ℕ → Fraction) (k : ℕ)
    → (x (d.column_label k)).den ∣ column_dens d e r i x k
unfolding column_dens
at_value d e r i x k =
    let a = (x (d.column_label k)).den in
    dvd-mul_left_of_dvd a
    (dvd-mul_left_of_dvd a (dvd-mul_left_of_dvd a (dvd-mul_left a (e.place r k).den) (e.place i k).den)
    (d.place r k).den) (d.place i k).den

at_row_value : (n : ℕ) (d e : Dictionary) (r i : ℕ) (x : ℕ → Fraction) → (x (d.row_label i)).den ∣ common n d e r i x
unfolding common row_dens
at_row_value n d e r i x =
    let a = (x (d.row_label i)).den in
    dvd-mul_left_of_dvd a (dvd-mul_right a (x (d.row_label r)).den) (multiple (suc n) (column_dens d e r i x))

at_pivot_value : (n : ℕ) (d e : Dictionary) (r i : ℕ) (x : ℕ → Fraction) → (x (d.row_label r)).den ∣ common n d e r i x
unfolding common row_dens
at_pivot_value n d e r i x =
    let a = (x (d.row_label r)).den in
    dvd-mul_left_of_dvd a (dvd-mul_left a (x (d.row_label i)).den) (multiple (suc n) (column_dens d e r i x))

common_positive : (q : Problem) (d e : Dictionary) (r i : ℕ) (x : ℕ → Fraction) → ArePositive q d → ArePositive q e
    → ValuesPositive x → r ≤ cost_row q → i ≤ cost_row q → 0 < common (columns q) d e r i x
unfolding common row_dens column_dens
common_positive q d e r i x hd he hx hr hi =
    product_positive _ _
    (multiple_positive (suc (columns q)) _ (λ k l.
    product_positive _ _ (hd.each i k hi (omega arith))
    (product_positive _ _ (hd.each r k hr (omega arith))
    (product_positive _ _ (he.each i k hi (omega arith))
    (product_positive _ _ (he.each r k hr (omega arith)) (hx.each (d.column_label k)))))))
    (product_positive _ _ (hx.each (d.row_label i)) (hx.each (d.row_label r)))

-- a value of the new dictionary's columns
new_value : (n : ℕ) (d : Dictionary) (r c i : ℕ) (x : ℕ → Fraction) (j : ℕ) → j < n
    → (x ((pivoted d r c).column_label j)).den ∣ common n d (pivoted d r c) r i x
new_value n d r c i x j h =
    let e = pivoted d r c in
    let Divides : ℕ → Type 0 = λ k. (x k).den ∣ common n d e r i x in
    elim (cases_eq j c) [
      | inl at ↦
          let here : Divides (e.column_label c) =
          subst Divides (sym (column_label_own d r c)) (at_pivot_value n d e r i x) in
          subst (λ k. Divides (e.column_label k)) (sym at) here
      | inr ne ↦ subst Divides (sym (column_label_other d r c j ne))
          (from_column n d e r i x j _ (omega arith) (at_value d e r i x j))
    ]

pub setting : (q : Problem) (d : Dictionary) (r c i : ℕ) (x : ℕ → Fraction) → IsNarrowPivot q d r c → ArePositive q d
    → ValuesPositive x → i ≤ cost_row q → Setting q d r c i x (common (columns q) d (pivoted d r c) r i x)
setting q d r c i x narrow positive values hi =
    let n = columns q in
    let e = pivoted d r c in
    let m = common n d e r i x in
    let Divides : ℕ → Type 0 = λ k. (x k).den ∣ m in
    let pivot_value : Divides (e.row_label r) =
    subst Divides (sym (row_label_own d r c))
    (from_column n d e r i x c _ (omega (arith, narrow.possible.column_in)) (at_value d e r i x c)) in
    record {
      narrow = narrow;
      positive = positive;
      values = values;
      row_in = hi;
      some = common_positive q d e r i x positive
          (positive_after q d r c narrow positive) values narrow.possible.row_in hi;
      old_row = record {
        places = λ j h. from_column n d e r i x j _ h (at_old_row d e r i x j);
        values = λ j h. from_column n d e r i x j _ (omega arith) (at_value d e r i x j);
        row = at_row_value n d e r i x;
      };
      old_pivot = record {
        places = λ j h. from_column n d e r i x j _ h (at_old_pivot d e r i x j);
        values = λ j h. from_column n d e r i x j _ (omega arith) (at_value d e r i x j);
        row = at_pivot_value n d e r i x;
      };
      new_row = record {
        places = λ j h. from_column n d e r i x j _ h (at_new_row d e r i x j);
        values = λ j h. new_value n d r c i x j h;
        row =
            elim (cases_eq i r) [
              | inl at ↦ subst (λ k. Divides (e.row_label k)) (sym at) pivot_value
              | inr ne ↦ subst Divides (sym (row_label_other d r c i ne)) (at_row_value n d e r i x)
            ];
      };
      new_pivot = record {
        places = λ j h. from_column n d e r i x j _ h (at_new_pivot d e r i x j);
        values = λ j h. new_value n d r c i x j h;
        row = pivot_value;
      };
    }

-- ---- one pivot, and then all

pivot_keeps : (q : Problem) (d : Dictionary) (r c : ℕ) (x : ℕ → Fraction) → IsNarrowPivot q d r c → ArePositive q d
    → ValuesPositive x
    → ((i : ℕ) → i ≤ cost_row q → SolvesRow (columns q) d x i) → (i : ℕ) → i ≤ cost_row q
    → SolvesRow (columns q) (pivoted d r c) x i
pivot_keeps q d r c x narrow positive values solved i hi =
    let s = setting q d r c i x narrow positive values hi in
    let says = says_from_old q d r c i x _ s (solved r narrow.possible.row_in) in
    elim (cases_eq i r) [
      | inl at ↦ subst (SolvesRow (columns q) (pivoted d r c) x) (sym at) (new_from_says q d r c i x _ s says)
      | inr ne ↦ new_row_solved q d r c i x _ s ne says (solved i hi)
    ]

pivot_gives_back : (q : Problem) (d : Dictionary) (r c : ℕ) (x : ℕ → Fraction) → IsNarrowPivot q d r c
    → ArePositive q d → ValuesPositive x
    → ((i : ℕ) → i ≤ cost_row q → SolvesRow (columns q) (pivoted d r c) x i) → (i : ℕ) → i ≤ cost_row q
    → SolvesRow (columns q) d x i
pivot_gives_back q d r c x narrow positive values solved i hi =
    let s = setting q d r c i x narrow positive values hi in
    let says = says_from_new q d r c i x _ s (solved r narrow.possible.row_in) in
    elim (cases_eq i r) [
      | inl at ↦ subst (SolvesRow (columns q) d x) (sym at) (old_from_says q d r c i x _ s says)
      | inr ne ↦ old_row_solved q d r c i x _ s ne says (solved i hi)
    ]

past_the_end : (values : List Fraction) (k : ℕ) → length values ≤ k → fraction_at values k ≡ whole_fraction (pos 0)
past_the_end values k h = get_or_past values k (whole_fraction (pos 0)) h

positive_cell : (values : List Fraction) (k : ℕ) → AreRational values → 0 < (fraction_at values k).den
positive_cell values k h =
    elim (cases_lt k (length values)) [
      | inl below ↦ h.each k below
      | inr above ↦ subst (λ f. 0 < f.den) (sym (past_the_end values k above)) (omega arith)
    ]

positive_values : (values : List Fraction) → AreRational values → ValuesPositive (fraction_at values)
positive_values values h = record { each = λ k. positive_cell values k h }

pub replay_keeps : (q : Problem) (d : Dictionary) (pivots : List (ℕ × ℕ)) (values : List Fraction) → ArePositive q d
    → AreRational values → AllNarrow q d pivots → Solves q d values ↔ Solves q (replay d pivots) values
replay_keeps q d [] values positive rational narrow = (λ s. s, λ s. s)
replay_keeps q d (p ∷ ps) values positive rational narrow =
    let e = pivoted d p.0 p.1 in
    let x = fraction_at values in
    let all = positive_values values rational in
    let rest = replay_keeps q e ps values (positive_after q d p.0 p.1 narrow.0 positive) rational narrow.1 in (
      λ s. rest.0 (record { each = pivot_keeps q d p.0 p.1 x narrow.0 positive all s.each }),
      λ s. record { each = pivot_gives_back q d p.0 p.1 x narrow.0 positive all (rest.1 s).each },
    )

pub replay_law : ReplayLaw
unfolding opening
replay_law q pivots values narrow rational =
    replay_keeps q (opening q) pivots values (record { each = λ i j hi hj. omega arith }) rational narrow
