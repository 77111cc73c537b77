-- A pivot row by row: what is done after some rows, and what the next row adds.
use Rattle.std.proofs.Common.{◌≡◌, ◌≢◌, ℕ, suc, ◌+◌, ◌*◌, ◌<◌, ◌≤◌, ◌⊎◌, inl, inr, true, false, List, length, refl, sym}
use Rattle.std.proofs.Common.{ap, ◌∙◌, subst, arith}
use Rattle.std.specs.Prelude.{Option, Some, None, IsSome, unwrap_or, ◌==◌, pos, slice_index_or}
use Rattle.std.proofs.Math.Nat.{mul-le-mul_right}
use Rattle.std.proofs.lemmas.Bool.Decides.{nat_tests}
use Rattle.std.proofs.lemmas.Bool.{cases_order, cases_eq}
use Rattle.std.proofs.lemmas.List.{get_or_read}
use Rattle.bl_simplex.specs.Fractions.{Fraction, IsReduced, whole_fraction}
use Rattle.bl_simplex.specs.Rationals.{fraction_at}
use Rattle.bl_tableau.specs.Cells.{placed, AreReduced}
use Rattle.bl_simplex.specs.Pivots.{scaled_entry, eliminated_entry, scaled_row, pivot_place, turn_of, IsFirstWide}

-- what an element that was read is
pub read_cell : (xs : List Fraction) (k : ℕ) (x : Fraction) → k < length xs → x ≡ slice_index_or xs k x
    → x ≡ fraction_at xs k
read_cell xs k x h e = get_or_read xs k x h e (whole_fraction (pos 0))

pub read_reduced : (xs : List Fraction) (k : ℕ) (x : Fraction) → AreReduced xs → k < length xs
    → x ≡ slice_index_or xs k x → IsReduced x
read_reduced xs k x all h e = subst IsReduced (sym (read_cell xs k x h e)) (all.each k h)

pub same_number : (j k : ℕ) → (j == k) ≡ true → j ≡ k
same_number j k h = grind (arith, nat_tests)

pub test_same : (j : ℕ) → (j == j) ≡ true
test_same j = grind (arith, nat_tests)

pub test_other : (j k : ℕ) → j ≢ k → (j == k) ≡ false
test_other j k h = grind (arith, nat_tests)

pub pivot_place-own : (place : ℕ → ℕ → Fraction) (r c j : ℕ)
    → pivot_place place r c r j ≡ scaled_entry (place r j) (place r c) (j == c)
unfolding pivot_place
pivot_place-own place r c j = rw (test_same r) refl

pub pivot_place-other : (place : ℕ → ℕ → Fraction) (r c i j : ℕ) → i ≢ r
    → pivot_place place r c i j ≡ eliminated_entry (place i c) (place i j) (scaled_row place r c j) (j == c)
unfolding pivot_place
pivot_place-other place r c i j h = rw (test_other i r h) refl

pub scaled_row-some : (place : ℕ → ℕ → Fraction) (r c j : ℕ) (f : Fraction)
    → scaled_entry (place r j) (place r c) (j == c) ≡ Some f → scaled_row place r c j ≡ f
scaled_row-some place r c j f e = ap (λ o. unwrap_or o (whole_fraction (pos 0))) e

turn_of-own : (r : ℕ) → turn_of r r ≡ 0
turn_of-own r = rw (test_same r) refl

turn_of-other : (r i : ℕ) → i ≢ r → turn_of r i ≡ suc i
turn_of-other r i h = rw (test_other i r h) refl

pub some_is_some : (o : Option Fraction) (f : Fraction) → o ≡ Some f → IsSome o
some_is_some o f e = subst IsSome (sym e) refl

-- ---- rows of one width don't overlap

row_below : (k i w j : ℕ) → k < i → j < w → k * w + j < i * w
row_below k i w j h l =
    let step : (k + 1) * w ≤ i * w = mul-le-mul_right w (omega arith) in
    omega (arith, step)

pub row_within : (i rows w : ℕ) → i < rows → i * w + w ≤ rows * w
row_within i rows w h =
    let step : (i + 1) * w ≤ rows * w = mul-le-mul_right w (omega arith) in
    omega (arith, step)

pub rows_apart : (i r w : ℕ) → i ≢ r → (i * w + w ≤ r * w) ⊎ (r * w + w ≤ i * w)
rows_apart i r w h =
    elim (cases_order i r) [
      | inl e ↦ absurd (h e)
      | inr o ↦ elim o [ inl l ↦ inl (row_within i r w l) | inr g ↦ inr (row_within r i w g) ]
    ]

outside : (k i w j : ℕ) → k ≢ i → j < w → (k * w + j < i * w) ⊎ (i * w + w ≤ k * w + j)
outside k i w j h l =
    elim (cases_order k i) [
      | inl e ↦ absurd (h e)
      | inr o ↦ elim o [
        | inl below ↦ inl (row_below k i w j below l)
        | inr above ↦ inr (omega (arith, row_within i k w above))
      ]
    ]

-- ---- the rows that are done

-- the numbers outside the row of width w at start stay
abbrev pub OthersStay : List Fraction → List Fraction → ℕ → ℕ → Type 0
OthersStay xs ys start w = (k : ℕ) → (k < start) ⊎ (start + w ≤ k) → fraction_at ys k ≡ fraction_at xs k

-- of the dictionary xs the pivot row and the rows before i are as after the pivot, the others as before
pub record RowsDone (xs zs : List Fraction) (rows w r c i : ℕ) : Type 0 where
  pub shares : (j : ℕ) → j < w
      → scaled_entry (fraction_at xs (r * w + j)) (fraction_at xs (r * w + c)) (j == c)
      ≡ Some (fraction_at zs (r * w + j))
  pub done : (k j : ℕ) → k < i → k ≢ r → j < w → pivot_place (placed xs w) r c k j ≡ Some (placed zs w k j)
  pub left : (k j : ℕ) → i ≤ k → k < rows → k ≢ r → j < w → placed zs w k j ≡ placed xs w k j

pub rows_begin : (xs ys : List Fraction) (rows w r c : ℕ)
    → ((j : ℕ) → j < w → scaled_entry (fraction_at xs (r * w + j)) (fraction_at xs (r * w + c)) (j == c)
    ≡ Some (fraction_at ys (r * w + j))) → OthersStay xs ys (r * w) w → RowsDone xs ys rows w r c 0
rows_begin xs ys rows w r c shares stay = record {
  shares = shares;
  done = λ k j h _ _. absurd (omega arith);
  left = λ k j _ _ other l. stay (k * w + j) (outside k r w j other l);
}

-- the remainders of row i, from what the pivot row and row i hold
abbrev pub Remainders : List Fraction → List Fraction → ℕ → ℕ → ℕ → ℕ → Type 0
Remainders zs ys start pivot w c =
    (j : ℕ) → j < w → eliminated_entry (fraction_at zs (start + c)) (fraction_at zs (start + j))
    (fraction_at zs (pivot + j)) (j == c) ≡ Some (fraction_at ys (start + j))

place_in_row : (xs zs : List Fraction) (rows w r c i j : ℕ) → RowsDone xs zs rows w r c i → i < rows → i ≢ r → c < w
    → j < w
    → pivot_place (placed xs w) r c i j
    ≡ eliminated_entry (fraction_at zs (i * w + c)) (fraction_at zs (i * w + j)) (fraction_at zs (r * w + j))
    (j == c)
place_in_row xs zs rows w r c i j h hi other hc hj =
    let factor : fraction_at zs (i * w + c) ≡ fraction_at xs (i * w + c) = h.left i c (omega arith) hi other hc in
    let number : fraction_at zs (i * w + j) ≡ fraction_at xs (i * w + j) = h.left i j (omega arith) hi other hj in
    let share : scaled_row (placed xs w) r c j ≡ fraction_at zs (r * w + j) =
    scaled_row-some (placed xs w) r c j _ (h.shares j hj) in
    pivot_place-other (placed xs w) r c i j other
    ∙ ap (λ e. eliminated_entry e (fraction_at xs (i * w + j)) (scaled_row (placed xs w) r c j) (j == c)) (sym factor)
    ∙ ap (λ x. eliminated_entry (fraction_at zs (i * w + c)) x (scaled_row (placed xs w) r c j) (j == c)) (sym number)
    ∙ ap (λ f. eliminated_entry (fraction_at zs (i * w + c)) (fraction_at zs (i * w + j)) f (j == c)) share

pub rows_step : (xs zs ys : List Fraction) (rows w r c i : ℕ) → RowsDone xs zs rows w r c i → i < rows → r < rows
    → i ≢ r → c < w → Remainders zs ys (i * w) (r * w) w c → OthersStay zs ys (i * w) w
    → RowsDone xs ys rows w r c (i + 1)
rows_step xs zs ys rows w r c i h hi hr other hc rest stay = record {
  shares = λ j l. h.shares j l ∙ ap Some (sym (stay (r * w + j) (outside r i w j (λ e. other (sym e)) l)));
  done = λ k j below apart l.
      elim (cases_eq k i) [
        | inl e ↦
            let here : pivot_place (placed xs w) r c i j ≡ Some (fraction_at ys (i * w + j)) =
            place_in_row xs zs rows w r c i j h hi other hc l ∙ rest j l in
            subst (λ n. pivot_place (placed xs w) r c n j ≡ Some (fraction_at ys (n * w + j))) (sym e) here
        | inr ne ↦ h.done k j (omega arith) apart l ∙ ap Some (sym (stay (k * w + j) (outside k i w j ne l)))
      ];
  left = λ k j from in_rows apart l.
      stay (k * w + j) (outside k i w j (omega arith) l) ∙ h.left k j (omega arith) in_rows apart l;
}

pub rows_skip : (xs zs : List Fraction) (rows w r c i : ℕ) → RowsDone xs zs rows w r c i → i ≡ r
    → RowsDone xs zs rows w r c (i + 1)
rows_skip xs zs rows w r c i h e = record {
  shares = h.shares;
  done = λ k j below apart l. h.done k j (omega arith) apart l;
  left = λ k j from in_rows apart l. h.left k j (omega arith) in_rows apart l;
}

pub rows_end : (xs zs : List Fraction) (rows w r c : ℕ) → RowsDone xs zs rows w r c rows → (i j : ℕ) → i < rows → j < w
    → pivot_place (placed xs w) r c i j ≡ Some (placed zs w i j)
rows_end xs zs rows w r c h i j hi hj =
    elim (cases_eq i r) [
      | inl e ↦ subst (λ n. pivot_place (placed xs w) r c n j ≡ Some (fraction_at zs (n * w + j))) (sym e)
          (pivot_place-own (placed xs w) r c j ∙ h.shares j hj)
      | inr other ↦ h.done i j hi other hj
    ]

-- ---- the first place that is wide

pub wide_share : (xs : List Fraction) (rows w r c j : ℕ) → r < rows → j < w
    → scaled_entry (fraction_at xs (r * w + j)) (fraction_at xs (r * w + c)) (j == c) ≡ None
    → ((k : ℕ) → k < j → IsSome (scaled_entry (fraction_at xs (r * w + k)) (fraction_at xs (r * w + c)) (k == c)))
    → IsFirstWide rows w (placed xs w) r c r j
wide_share xs rows w r c j hr hj wide before = record {
  row_in = hr;
  column_in = hj;
  wide = pivot_place-own (placed xs w) r c j ∙ wide;
  earlier = λ k l _ _ first.
      elim first [
        | inl turn ↦ absurd (omega (arith, turn_of-own r, turn))
        | inr there ↦
            subst (λ n. IsSome (pivot_place (placed xs w) r c n l)) (sym there.0)
            (subst IsSome (sym (pivot_place-own (placed xs w) r c l)) (before l there.1))
      ];
}

pub wide_remainder : (xs zs : List Fraction) (rows w r c i j : ℕ) → RowsDone xs zs rows w r c i → i < rows → i ≢ r
    → c < w → j < w
    → eliminated_entry (fraction_at zs (i * w + c)) (fraction_at zs (i * w + j)) (fraction_at zs (r * w + j)) (j == c)
    ≡ None
    → ((k : ℕ) → k < j → IsSome
    (eliminated_entry (fraction_at zs (i * w + c)) (fraction_at zs (i * w + k)) (fraction_at zs (r * w + k))
    (k == c)))
    → IsFirstWide rows w (placed xs w) r c i j
wide_remainder xs zs rows w r c i j h hi other hc hj wide before = record {
  row_in = hi;
  column_in = hj;
  wide = place_in_row xs zs rows w r c i j h hi other hc hj ∙ wide;
  earlier = λ k l _ in_row first.
      elim first [
        | inl turn ↦
            elim (cases_eq k r) [
              | inl e ↦
                  subst (λ n. IsSome (pivot_place (placed xs w) r c n l)) (sym e)
                  (some_is_some _ _ (pivot_place-own (placed xs w) r c l ∙ h.shares l in_row))
              | inr ne ↦ some_is_some _ _
                  (h.done k l (omega (arith, turn_of-other r k ne, turn_of-other r i other, turn)) ne in_row)
            ]
        | inr there ↦
            subst (λ n. IsSome (pivot_place (placed xs w) r c n l)) (sym there.0)
            (subst IsSome (sym (place_in_row xs zs rows w r c i l h hi other hc in_row)) (before l there.1))
      ];
}
