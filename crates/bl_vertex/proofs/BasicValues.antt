-- The basic values of a dictionary solve it: the columns' variables are 0, and each row's is its right side.
use Rattle.std.proofs.Common.{◌≡◌, ◌≢◌, ℕ, zero, suc, ◌+◌, ◌*◌, ◌<◌, ◌≤◌, inl, inr, List, [], ◌∷◌, length, map, ℤ, pos}
use Rattle.std.proofs.Common.{◌-ℤ◌, ◌*ℤ◌, ◌≤ℤ◌, refl, sym, ap, ◌∙◌, subst, arith}
use Rattle.std.specs.Prelude.{Option, Some, None, ◌==◌, unwrap_or, option_map, if◌then◌else◌}
use Rattle.std.specs.List.{range_with_len}
use Rattle.std.proofs.Math.IntN.{*ℤ-zero, zero-*ℤ, pos-*ℤ-pos}
use Rattle.std.proofs.lemmas.Bool.{cases_eq, cond-true, cond-false}
use Rattle.std.proofs.lemmas.Int.{ints}
use Rattle.std.proofs.lemmas.List.FromFn.{length-map-range_with_len, get_or-map-range_with_len}
use Rattle.bl_whole.specs.Identities.{variable, constant, minus, times}
use Rattle.bl_whole.proofs.IdentityLemmas.{identity}
use Rattle.bl_terms.specs.Bounds.{Problem}
use Rattle.bl_simplex.specs.Fractions.{Fraction, whole_fraction}
use Rattle.bl_simplex.specs.Rationals.{fraction_at, rational_product, rational_total}
use Rattle.bl_simplex.specs.Dictionaries.{Dictionary, columns, cost_row, opening}
use Rattle.bl_simplex.specs.Pivots.{replay}
use Rattle.bl_simplex.specs.Closing.{labelled, basic_value}
use Rattle.bl_simplex.specs.Licences.{AreSteps, IsFeasible}
use Rattle.bl_tableau.specs.Solutions.{SolvesRow, Solves, AreRational}
use Rattle.bl_tableau.proofs.PivotLaw.{ArePositive}
use Rattle.bl_tableau.proofs.RowSteps.{test_same, test_other}
use Rattle.bl_duality.proofs.Labels.{variables, ArePermuted, permuted}
use Rattle.bl_duality.proofs.Regroup.{each_found}
use Rattle.bl_duality.proofs.CostSigns.{reached, steps_narrow}

-- ---- what is looked up by label

labelled_own : (n : ℕ) (label : ℕ → ℕ) (i : ℕ) → i < n → ((k : ℕ) → k < n → label k ≡ label i → k ≡ i)
    → labelled n label (label i) ≡ Some i
labelled_own zero label i h apart = absurd (omega arith)
labelled_own (suc n) label i h apart =
    elim (cases_eq (label n) (label i)) [
      | inl e ↦ cond-true (label n == label i) _ _ (ap (λ x. x == label i) e ∙ test_same (label i))
          ∙ ap Some (apart n (omega arith) e)
      | inr ne ↦
          let other : i ≢ n = λ e. ne (ap label (sym e)) in
          cond-false (label n == label i) _ _ (test_other (label n) (label i) ne)
          ∙ labelled_own n label i (omega arith) (λ k l. apart k (omega arith))
    ]

labelled_none : (n : ℕ) (label : ℕ → ℕ) (l : ℕ) → ((k : ℕ) → k < n → label k ≢ l) → labelled n label l ≡ None
labelled_none zero label l h = refl
labelled_none (suc n) label l h =
    cond-false (label n == l) _ _ (test_other (label n) l (h n (omega arith)))
    ∙ labelled_none n label l (λ k b. h k (omega arith))

-- ---- dictionaries that steps lead to

-- each variable has one label, denominators are positive, and the cost row keeps its label
pub record IsBasis (q : Problem) (d : Dictionary) : Type 0 where
  pub labels : ArePermuted q d
  pub positive : ArePositive q d
  pub cost_label : d.row_label (cost_row q) ≡ columns q + cost_row q

pub steps_to_basis : (q : Problem) (u : Option ℤ) (pivots : List (ℕ × ℕ)) → AreSteps q u (opening q) pivots
    → IsBasis q (replay (opening q) pivots)
steps_to_basis q u pivots steps =
    let r = reached q u pivots steps in
    record {
      labels = permuted q pivots (steps_narrow q u (opening q) pivots steps);
      positive = r.positive;
      cost_label = r.label;
    }

-- ---- the basic values, and that of the cost row

abbrev pub vertex_value : Problem → Dictionary → ℕ → Fraction
vertex_value q d l =
    if l == columns q + cost_row q then d.place (cost_row q) (columns q) else basic_value q d l

pub vertex_list : Problem → Dictionary → List Fraction
vertex_list q d = map (vertex_value q d) (range_with_len 0 (variables q))

list_length : (q : Problem) (d : Dictionary) → length (vertex_list q d) ≡ variables q
unfolding vertex_list
list_length q d = length-map-range_with_len (vertex_value q d) 0 (variables q)

list_at : (q : Problem) (d : Dictionary) (l : ℕ) → l < variables q
    → fraction_at (vertex_list q d) l ≡ vertex_value q d l
unfolding vertex_list
list_at q d l h =
    get_or-map-range_with_len (vertex_value q d) 0 (variables q) l l (whole_fraction (pos 0)) h (omega arith)

pub value_of_cost : (q : Problem) (d : Dictionary)
    → fraction_at (vertex_list q d) (columns q + cost_row q) ≡ d.place (cost_row q) (columns q)
value_of_cost q d =
    let l = columns q + cost_row q in
    list_at q d l (omega arith) ∙ cond-true (l == l) _ _ (test_same l)

pub value_of : (q : Problem) (d : Dictionary) (l : ℕ) → l < columns q + cost_row q
    → fraction_at (vertex_list q d) l ≡ basic_value q d l
value_of q d l h =
    let other : l ≢ columns q + cost_row q = omega arith in
    list_at q d l (omega arith)
    ∙ cond-false (l == columns q + cost_row q) _ _ (test_other l (columns q + cost_row q) other)

pub basic_least : (q : Problem) (d : Dictionary) (l : ℕ) → IsFeasible q d → pos 0 ≤ℤ (basic_value q d l).num
basic_least q d l h =
    each_found (λ (f : Fraction). pos 0 ≤ℤ f.num) (cost_row q) (λ i. d.place i (columns q)) d.row_label l
    (whole_fraction (pos 0)) h (omega (arith, ints))

basic_positive : (q : Problem) (d : Dictionary) (l : ℕ) → ArePositive q d → 0 < (basic_value q d l).den
basic_positive q d l h =
    each_found (λ (f : Fraction). 0 < f.den) (cost_row q) (λ i. d.place i (columns q)) d.row_label l
    (whole_fraction (pos 0)) (λ i b. h.each i (columns q) (omega arith) (omega arith)) (omega arith)

pub value_positive : (q : Problem) (d : Dictionary) (l : ℕ) → ArePositive q d → l < variables q
    → 0 < (fraction_at (vertex_list q d) l).den
value_positive q d l h b =
    elim (cases_eq l (columns q + cost_row q)) [
      | inl e ↦ subst (λ f. 0 < f.den) (sym (ap (fraction_at (vertex_list q d)) e ∙ value_of_cost q d))
          (h.each (cost_row q) (columns q) (omega arith) (omega arith))
      | inr ne ↦ subst (λ f. 0 < f.den) (sym (value_of q d l (omega arith))) (basic_positive q d l h)
    ]

pub list_rational : (q : Problem) (d : Dictionary) → ArePositive q d → AreRational (vertex_list q d)
list_rational q d h = record { each = λ k b. value_positive q d k h (omega (arith, list_length q d)) }

row_value : (q : Problem) (d : Dictionary) (i : ℕ) → IsBasis q d → i ≤ cost_row q
    → fraction_at (vertex_list q d) (d.row_label i) ≡ d.place i (columns q)
row_value q d i h hi =
    elim (cases_eq i (cost_row q)) [
      | inl e ↦
          ap (λ k. fraction_at (vertex_list q d) (d.row_label k)) e
          ∙ ap (fraction_at (vertex_list q d)) h.cost_label ∙ value_of_cost q d
          ∙ ap (λ k. d.place k (columns q)) (sym e)
      | inr ne ↦
          let other : d.row_label i ≢ columns q + cost_row q =
          λ e. ne (h.labels.rows_apart i (cost_row q) hi (omega arith) (e ∙ sym h.cost_label)) in
          let below = h.labels.rows_below i hi in
          value_of q d (d.row_label i) (omega arith)
          ∙ ap (λ o. unwrap_or (option_map (λ k. d.place k (columns q)) o) (whole_fraction (pos 0)))
          (labelled_own (cost_row q) d.row_label i (omega arith)
          (λ k l e. h.labels.rows_apart k i (omega arith) hi e))
    ]

column_value : (q : Problem) (d : Dictionary) (j : ℕ) → IsBasis q d → j < columns q
    → fraction_at (vertex_list q d) (d.column_label j) ≡ whole_fraction (pos 0)
column_value q d j h hj =
    let other : d.column_label j ≢ columns q + cost_row q =
    λ e. h.labels.sides_apart (cost_row q) j (omega arith) hj (h.cost_label ∙ sym e) in
    let below = h.labels.columns_below j hj in
    value_of q d (d.column_label j) (omega arith)
    ∙ ap (λ o. unwrap_or (option_map (λ k. d.place k (columns q)) o) (whole_fraction (pos 0)))
    (labelled_none (cost_row q) d.row_label (d.column_label j)
    (λ k l. h.labels.sides_apart k j (omega arith) hj))

-- ---- a row whose columns are all 0

total_nought : (n : ℕ) (f : ℕ → Fraction) → ((j : ℕ) → j < n → (f j).num ≡ pos 0) → (rational_total n f).num ≡ pos 0
total_nought zero f h = refl
total_nought (suc n) f h =
    let t = rational_total n f in
    let e : t.num *ℤ pos (f n).den ≡ pos 0 =
    ap (λ z. z *ℤ pos (f n).den) (total_nought n f (λ j l. h j (omega arith))) ∙ zero-*ℤ (pos (f n).den) in
    let g : (f n).num *ℤ pos t.den ≡ pos 0 = ap (λ z. z *ℤ pos t.den) (h n (omega arith)) ∙ zero-*ℤ (pos t.den) in
    omega (arith, ints)

own_alone : (a d t e : ℤ) → t ≡ pos 0 → a *ℤ (d *ℤ e) ≡ (a *ℤ e -ℤ t *ℤ d) *ℤ d
own_alone a d t e h =
    identity (a ∷ d ∷ e ∷ []) (times (variable 0) (times (variable 1) (variable 2)))
    (times (minus (times (variable 0) (variable 2)) (times (constant (pos 0)) (variable 1))) (variable 1)) refl
    ∙ ap (λ z. (a *ℤ e -ℤ z *ℤ d) *ℤ d) (sym h)

row_alone : (n : ℕ) (d : Dictionary) (x : ℕ → Fraction) (i : ℕ) → x (d.row_label i) ≡ d.place i n
    → ((j : ℕ) → j < n → x (d.column_label j) ≡ whole_fraction (pos 0)) → SolvesRow n d x i
row_alone n d x i own noughts =
    let a = d.place i n in
    let part : ℕ → Fraction = λ j. rational_product (d.place i j) (x (d.column_label j)) in
    let t = rational_total n part in
    let nought : t.num ≡ pos 0 = total_nought n part (λ j l.
    ap (λ f. (d.place i j).num *ℤ f.num) (noughts j l) ∙ *ℤ-zero (d.place i j).num) in
    record {
      cross =
          ap (λ f. f.num *ℤ pos (a.den * t.den)) own
          ∙ ap (λ z. a.num *ℤ z) (sym (pos-*ℤ-pos a.den t.den))
          ∙ own_alone a.num (pos a.den) t.num (pos t.den) nought
          ∙ ap (λ f. (a.num *ℤ pos t.den -ℤ t.num *ℤ pos a.den) *ℤ pos f.den) (sym own);
    }

pub vertex_solves : (q : Problem) (d : Dictionary) → IsBasis q d → Solves q d (vertex_list q d)
vertex_solves q d h = record {
  each = λ i hi.
      row_alone (columns q) d (fraction_at (vertex_list q d)) i (row_value q d i h hi)
      (λ j hj. column_value q d j h hj);
}
