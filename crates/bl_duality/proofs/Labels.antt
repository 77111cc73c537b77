-- The labels of a dictionary are a permutation: each variable labels one row or one column, also after pivots.
use Rattle.std.proofs.Common.{◌≡◌, ◌≢◌, ℕ, ◌+◌, ◌-◌, ◌<◌, ◌≤◌, ◌⊎◌, inl, inr, List, [], ◌∷◌, refl, sym, ap, ◌∙◌}
use Rattle.std.proofs.Common.{subst, arith}
use Rattle.std.proofs.lemmas.Bool.{cases_eq, cases_lt}
use Rattle.bl_terms.specs.Bounds.{Problem}
use Rattle.bl_simplex.specs.Dictionaries.{Dictionary, columns, cost_row, opening}
use Rattle.bl_simplex.specs.Pivots.{pivoted, IsPivot, replay, AllNarrow}
use Rattle.bl_tableau.proofs.ReplayProof.{row_label_own, row_label_other, column_label_own, column_label_other}

-- how many variables there are: one for each column and one for each row, the cost row included
abbrev pub variables : Problem → ℕ
variables q = columns q + (cost_row q + 1)

-- the variable labels this row, or this column
pub record LabelsRow (q : Problem) (d : Dictionary) (l i : ℕ) : Type 0 where
  pub row_in : i ≤ cost_row q
  pub label : d.row_label i ≡ l

pub record LabelsColumn (q : Problem) (d : Dictionary) (l j : ℕ) : Type 0 where
  pub column_in : j < columns q
  pub label : d.column_label j ≡ l

-- each variable labels a row or a column
abbrev pub IsLabel : Problem → Dictionary → ℕ → Type 0
IsLabel q d l = ((i : ℕ) × LabelsRow q d l i) ⊎ ((j : ℕ) × LabelsColumn q d l j)

-- no variable labels two places, each label is a variable, and each variable is a label
pub record ArePermuted (q : Problem) (d : Dictionary) : Type 0 where
  pub rows_apart : (i k : ℕ) → i ≤ cost_row q → k ≤ cost_row q → d.row_label i ≡ d.row_label k → i ≡ k
  pub columns_apart : (j k : ℕ) → j < columns q → k < columns q → d.column_label j ≡ d.column_label k → j ≡ k
  pub sides_apart : (i j : ℕ) → i ≤ cost_row q → j < columns q → d.row_label i ≢ d.column_label j
  pub rows_below : (i : ℕ) → i ≤ cost_row q → d.row_label i < variables q
  pub columns_below : (j : ℕ) → j < columns q → d.column_label j < variables q
  pub found : (l : ℕ) → l < variables q → IsLabel q d l

-- ---- the opening dictionary

opening_found : (q : Problem) (l : ℕ) → l < variables q → IsLabel q (opening q) l
unfolding opening
opening_found q l h =
    elim (cases_lt l (columns q)) [
      | inl below ↦ inr (l, record { column_in = below; label = refl })
      | inr above ↦ inl (l - columns q, record { row_in = omega arith; label = omega arith })
    ]

pub opening_permuted : (q : Problem) → ArePermuted q (opening q)
unfolding opening
opening_permuted q = record {
  rows_apart = λ i k hi hk e. omega arith;
  columns_apart = λ j k hj hk e. e;
  sides_apart = λ i j hi hj e. omega arith;
  rows_below = λ i hi. omega arith;
  columns_below = λ j hj. omega arith;
  found = opening_found q;
}

-- ---- a pivot changes two labels

-- where a row's label after the pivot stood before it: at column c, or at the row itself
row_case : (d : Dictionary) (r c i : ℕ)
    → ((i ≡ r) × ((pivoted d r c).row_label i ≡ d.column_label c))
    ⊎ ((i ≢ r) × ((pivoted d r c).row_label i ≡ d.row_label i))
row_case d r c i =
    elim (cases_eq i r) [
      | inl e ↦ inl (e, ap (λ k. (pivoted d r c).row_label k) e ∙ row_label_own d r c)
      | inr ne ↦ inr (ne, row_label_other d r c i ne)
    ]

column_case : (d : Dictionary) (r c j : ℕ)
    → ((j ≡ c) × ((pivoted d r c).column_label j ≡ d.row_label r))
    ⊎ ((j ≢ c) × ((pivoted d r c).column_label j ≡ d.column_label j))
column_case d r c j =
    elim (cases_eq j c) [
      | inl e ↦ inl (e, ap (λ k. (pivoted d r c).column_label k) e ∙ column_label_own d r c)
      | inr ne ↦ inr (ne, column_label_other d r c j ne)
    ]

rows_stay_apart : (q : Problem) (d : Dictionary) (r c : ℕ) → IsPivot q d r c → ArePermuted q d → (i k : ℕ)
    → i ≤ cost_row q → k ≤ cost_row q → (pivoted d r c).row_label i ≡ (pivoted d r c).row_label k → i ≡ k
rows_stay_apart q d r c can h i k hi hk e =
    elim (row_case d r c i) [
      | inl a ↦ elim (row_case d r c k) [
        | inl b ↦ a.0 ∙ sym b.0
        | inr b ↦ absurd (h.sides_apart k c hk can.column_in (sym b.1 ∙ sym e ∙ a.1))
      ]
      | inr a ↦ elim (row_case d r c k) [
        | inl b ↦ absurd (h.sides_apart i c hi can.column_in (sym a.1 ∙ e ∙ b.1))
        | inr b ↦ h.rows_apart i k hi hk (sym a.1 ∙ e ∙ b.1)
      ]
    ]

columns_stay_apart : (q : Problem) (d : Dictionary) (r c : ℕ) → IsPivot q d r c → ArePermuted q d → (j k : ℕ)
    → j < columns q → k < columns q → (pivoted d r c).column_label j ≡ (pivoted d r c).column_label k → j ≡ k
columns_stay_apart q d r c can h j k hj hk e =
    elim (column_case d r c j) [
      | inl a ↦ elim (column_case d r c k) [
        | inl b ↦ a.0 ∙ sym b.0
        | inr b ↦ absurd (h.sides_apart r k can.row_in hk (sym a.1 ∙ e ∙ b.1))
      ]
      | inr a ↦ elim (column_case d r c k) [
        | inl b ↦ absurd (h.sides_apart r j can.row_in hj (sym b.1 ∙ sym e ∙ a.1))
        | inr b ↦ h.columns_apart j k hj hk (sym a.1 ∙ e ∙ b.1)
      ]
    ]

sides_stay_apart : (q : Problem) (d : Dictionary) (r c : ℕ) → IsPivot q d r c → ArePermuted q d → (i j : ℕ)
    → i ≤ cost_row q → j < columns q → (pivoted d r c).row_label i ≢ (pivoted d r c).column_label j
sides_stay_apart q d r c can h i j hi hj e =
    elim (row_case d r c i) [
      | inl a ↦ elim (column_case d r c j) [
        | inl b ↦ h.sides_apart r c can.row_in can.column_in (sym b.1 ∙ sym e ∙ a.1)
        | inr b ↦ b.0 (h.columns_apart j c hj can.column_in (sym b.1 ∙ sym e ∙ a.1))
      ]
      | inr a ↦ elim (column_case d r c j) [
        | inl b ↦ a.0 (h.rows_apart i r hi can.row_in (sym a.1 ∙ e ∙ b.1))
        | inr b ↦ h.sides_apart i j hi hj (sym a.1 ∙ e ∙ b.1)
      ]
    ]

rows_stay_below : (q : Problem) (d : Dictionary) (r c : ℕ) → IsPivot q d r c → ArePermuted q d → (i : ℕ)
    → i ≤ cost_row q → (pivoted d r c).row_label i < variables q
rows_stay_below q d r c can h i hi =
    elim (row_case d r c i) [
      | inl a ↦ subst (λ l. l < variables q) (sym a.1) (h.columns_below c can.column_in)
      | inr a ↦ subst (λ l. l < variables q) (sym a.1) (h.rows_below i hi)
    ]

columns_stay_below : (q : Problem) (d : Dictionary) (r c : ℕ) → IsPivot q d r c → ArePermuted q d → (j : ℕ)
    → j < columns q → (pivoted d r c).column_label j < variables q
columns_stay_below q d r c can h j hj =
    elim (column_case d r c j) [
      | inl a ↦ subst (λ l. l < variables q) (sym a.1) (h.rows_below r can.row_in)
      | inr a ↦ subst (λ l. l < variables q) (sym a.1) (h.columns_below j hj)
    ]

found_still : (q : Problem) (d : Dictionary) (r c l : ℕ) → IsPivot q d r c → IsLabel q d l
    → IsLabel q (pivoted d r c) l
found_still q d r c l can (inl (i, h)) =
    elim (cases_eq i r) [
      | inl e ↦
          let label = column_label_own d r c ∙ ap d.row_label (sym e) ∙ h.label in
          inr (c, record { column_in = can.column_in; label = label })
      | inr ne ↦ inl (i, record { row_in = h.row_in; label = row_label_other d r c i ne ∙ h.label })
    ]
found_still q d r c l can (inr (j, h)) =
    elim (cases_eq j c) [
      | inl e ↦
          let label = row_label_own d r c ∙ ap d.column_label (sym e) ∙ h.label in
          inl (r, record { row_in = can.row_in; label = label })
      | inr ne ↦ inr (j, record { column_in = h.column_in; label = column_label_other d r c j ne ∙ h.label })
    ]

pub pivot_permutes : (q : Problem) (d : Dictionary) (r c : ℕ) → IsPivot q d r c → ArePermuted q d
    → ArePermuted q (pivoted d r c)
pivot_permutes q d r c can h = record {
  rows_apart = rows_stay_apart q d r c can h;
  columns_apart = columns_stay_apart q d r c can h;
  sides_apart = sides_stay_apart q d r c can h;
  rows_below = rows_stay_below q d r c can h;
  columns_below = columns_stay_below q d r c can h;
  found = λ l b. found_still q d r c l can (h.found l b);
}

-- ---- all pivots

pub replay_permutes : (q : Problem) (d : Dictionary) (pivots : List (ℕ × ℕ)) → AllNarrow q d pivots → ArePermuted q d
    → ArePermuted q (replay d pivots)
replay_permutes q d [] narrow h = h
replay_permutes q d (p ∷ ps) narrow h =
    replay_permutes q (pivoted d p.0 p.1) ps narrow.1 (pivot_permutes q d p.0 p.1 narrow.0.possible h)

-- the labels of every dictionary that narrow pivots lead to
pub permuted : (q : Problem) (pivots : List (ℕ × ℕ)) → AllNarrow q (opening q) pivots
    → ArePermuted q (replay (opening q) pivots)
permuted q pivots narrow = replay_permutes q (opening q) pivots narrow (opening_permuted q)
