-- The rows that a cut adds up fit, and so do their sums.
use Rattle.std.proofs.Common.{◌≡◌, ℕ, zero, suc, ◌+◌, ◌*◌, ◌^◌, ◌<◌, ◌≤◌}
use Rattle.std.proofs.Common.{refl, sym, ◌∙◌, ap, subst, arith, List, [], ◌∷◌}
use Rattle.std.proofs.Common.{length, drop, ◌⊎◌, inl, inr, drop-cons, take, map, ◌++◌}
use Rattle.std.specs.Prelude.{ℤ, pos, negsuc, neg_ℤ, ◌+ℤ◌, ◌-ℤ◌, ◌*ℤ◌, ◌≤ℤ◌, All, slice_set, slice_index_or, FitsSigned}
use Rattle.std.specs.Int.{w128}
use Rattle.std.specs.List.{range_with_len}
use Rattle.std.proofs.lemmas.List.FromFn.{length-range_with_len, get_or-range_with_len, length-map-range_with_len}
use Rattle.std.proofs.lemmas.List.FromFn.{get_or-map-range_with_len}
use Rattle.std.proofs.lemmas.Int.{ints}
use Rattle.std.proofs.lemmas.Bool.{cases_eq}
use Rattle.std.proofs.lemmas.List.{length-map, get_or-map, get_or-set_same, get_or-set_other, length-set}
use Rattle.std.proofs.lemmas.List.{take_all}
use Rattle.bl_limits.specs.declared.TheConstants.{MAX_NUMBER, MAX_PROBLEM_COEFFICIENT}
use Rattle.bl_limits.specs.declared.TheConstants.{MAX_PROBLEM_RHS, MAX_PROOF_NUMBER}
use Rattle.bl_whole.specs.Sums.{component}
use Rattle.bl_whole.specs.Within.{IsWithin, AreWithin, PartialDotsFit}
use Rattle.bl_whole.proofs.WithinLemmas.{within_more, within_zero, within_negation, within_entry, within_from_bounds}
use Rattle.bl_whole.proofs.WithinLemmas.{within_sum, within_difference, within_product, fits_from_within, dots_fit}
use Rattle.bl_terms.specs.Points.{Area, Linear, zeros}
use Rattle.bl_terms.specs.Programs.{Program, columns, InBox}
use Rattle.bl_terms.specs.Bounds.{linear_at, no_linear}
use Rattle.bl_model.specs.View.{IsModel}
use Rattle.bl_model.specs.Boxes.{IsBox}
use Rattle.bl_cut_terms.specs.declared.parts.Tight.{Tight}
use Rattle.bl_cut_terms.specs.declared.parts.Tight.TheVariants.{Row, Upper, Lower, Cut}
use Rattle.bl_cut_terms.specs.NoGoods.{LocalRow, NoGoodCut, no_local_row, local_row_at, cut_of, tight_row, tight_rows}
use Rattle.bl_cut_terms.specs.NoGoods.{IsThere, IsUnitFrom, combined}
use Rattle.bl_cut_terms.proofs.NoGoodLemmas.{zero_at, length-zeros}
use Rattle.bl_cut.specs.Cuts.{AreProvedCuts, cut_at, no_cut}
use Rattle.bl_cut.proofs.CutLemmas.{row_columns, row_within, rhs_within, point_within}
use Rattle.bl_cut_proof.specs.Proving.{local_rows, IsOfProgram}
use Rattle.bl_cut_proof.specs.Rows.{AreRows}
use Rattle.bl_cut_proof.proofs.CodeLemmas.{map_more}

-- a row of n columns with numbers within the limits of a problem
record FitsRow (n : ℕ) (r : Linear) : Type 0 where
  pub columns : length r.coef ≡ n
  pub coefs : AreWithin MAX_PROBLEM_COEFFICIENT r.coef
  pub rhs : IsWithin MAX_PROBLEM_RHS r.rhs

side_fits : (n j : ℕ) (c b : ℤ) → j < n → IsWithin 1 c → IsWithin MAX_NUMBER b
    → FitsRow n (record { coef = slice_set (zeros n) j c; rhs = b })
side_fits n j c b below small within = record {
  columns = length-set (zeros n) j c ∙ length-zeros n;
  coefs = record {
    each = λ k l. elim (cases_eq k j) [
      | inl e ↦
          let b' : j < length (zeros n) = rw length-zeros below in
          let at : component (slice_set (zeros n) j c) k ≡ c =
          ap (component (slice_set (zeros n) j c)) e ∙ get_or-set_same (zeros n) j c (pos 0) b' in
          subst (IsWithin MAX_PROBLEM_COEFFICIENT) (sym at) (within_more small (omega arith))
      | inr ne ↦
          let at : component (slice_set (zeros n) j c) k ≡ pos 0 =
          get_or-set_other (zeros n) j k c (pos 0) ne ∙ zero_at n k in
          subst (IsWithin MAX_PROBLEM_COEFFICIENT) (sym at) (within_zero MAX_PROBLEM_COEFFICIENT)
    ];
  };
  rhs = within_more within (omega arith);
}

-- the row of an earlier cut
local_row_of : (earlier : List NoGoodCut) (k : ℕ) → k < length earlier
    → local_row_at (local_rows earlier) k ≡ cut_of (cut_at earlier k)
local_row_of earlier k b = get_or-map cut_of earlier k no_cut no_local_row b

item_fits : (p : Program) (a : Area) (earlier : List NoGoodCut) (x : Tight) → IsModel p → IsBox a
    → length a.lo ≡ columns p → AreProvedCuts earlier → IsThere p a (local_rows earlier) x → IsOfProgram p earlier x
    → FitsRow (columns p) (tight_row p a (local_rows earlier) x)
item_fits p a earlier (Row i) model box e cuts there of = record {
  columns = model.sound.row_columns i there;
  coefs = record { each = λ k b. within_more (model.limits.coefs i k there) (omega arith) };
  rhs = within_more (model.limits.rhs i there) (omega arith);
}
item_fits p a earlier (Upper j) model box e cuts there of =
    side_fits (columns p) j (pos 1) (component a.hi j) there (record { magnitude = omega arith })
    (within_entry box.upper_bounds j)
item_fits p a earlier (Lower j) model box e cuts there of =
    side_fits (columns p) j (negsuc 0) (neg_ℤ (component a.lo j)) there (record { magnitude = omega arith })
    (within_negation (within_entry box.lower_bounds j))
item_fits p a earlier (Cut k) model box e cuts there of =
    let l = length-map earlier cut_of in
    let b : k < length earlier = omega (arith, there.0) in
    let proved = cuts.proved k no_cut b in
    subst (λ (r : LocalRow). FitsRow (columns p) r.row) (sym (local_row_of earlier k b)) (record {
      columns = row_columns (cut_at earlier k) proved ∙ ap columns of;
      coefs = row_within (cut_at earlier k) proved;
      rhs = rhs_within (cut_at earlier k) proved;
    })

pub rows_fit : (p : Program) (a : Area) (earlier : List NoGoodCut) (tight : List Tight) → IsModel p → IsBox a
    → length a.lo ≡ columns p → AreProvedCuts earlier → All (IsThere p a (local_rows earlier)) tight
    → All (IsOfProgram p earlier) tight → AreRows (columns p) (tight_rows p a (local_rows earlier) tight)
rows_fit p a earlier tight model box e cuts there of =
    let f : (i : ℕ) → i < length (tight_rows p a (local_rows earlier) tight)
    → FitsRow (columns p) (linear_at (tight_rows p a (local_rows earlier) tight) i) =
    λ i b. let b' : i < length tight = rw length-map at b in
    subst (FitsRow (columns p)) (sym (get_or-map (tight_row p a (local_rows earlier)) tight i (Row 0) no_linear b'))
    (item_fits p a earlier (slice_index_or tight i (Row 0)) model box e cuts (there i (Row 0) b') (of i (Row 0) b')) in
    record { columns = λ i b. (f i b).columns; coefs = λ i b. (f i b).coefs; rhs = λ i b. (f i b).rhs }

-- a unit has at most as many terms as there are places
pub unit_length : (least n : ℕ) (unit : List (ℕ × ℤ)) → IsUnitFrom least n unit → least + length unit ≤ n ⊎ (unit ≡ [])
unit_length least n [] u = inr refl
unit_length least n ((k, m) ∷ unit) u =
    let b : k < n = u.0.1 in
    let l : least ≤ k = u.0.0 in
    elim (unit_length (suc k) n unit u.1) [
      | inl c ↦ inl (omega arith)
      | inr e ↦ let none : length unit ≡ 0 = ap length e in inl (omega arith)
    ]

-- a term of a unit
pub unit_term : (least n : ℕ) (unit : List (ℕ × ℤ)) (t : ℕ) (d : ℕ × ℤ) → IsUnitFrom least n unit → t < length unit
    → ((slice_index_or unit t d).0 < n) × (neg_ℤ MAX_PROOF_NUMBER ≤ℤ (slice_index_or unit t d).1)
    × ((slice_index_or unit t d).1 ≤ℤ MAX_PROOF_NUMBER)
unit_term least n [] t d u b = absurd (omega arith)
unit_term least n ((k, m) ∷ unit) zero d u b = (u.0.1, u.0.3, u.0.4)
unit_term least n ((k, m) ∷ unit) (suc t) d u b = unit_term (suc k) n unit t d u.1 (omega arith)

-- one more term of a combination
pub combined_next : (rows : List Linear) (unit : List (ℕ × ℤ)) (t col : ℕ) (d : ℕ × ℤ) → t < length unit
    → combined rows (drop t unit) col
    ≡ (slice_index_or unit t d).1 *ℤ component (linear_at rows (slice_index_or unit t d).0).coef col
    +ℤ combined rows (drop (suc t) unit) col
combined_next rows unit t col d b = ap (λ us. combined rows us col) (drop-cons unit t d b)

-- ---- sizes

-- one more term of a combination fits 128 bits
pub term_fits : (k : ℕ) (s m a : ℤ) → k < 2 ^ 32 → IsWithin (k * (2 ^ 50 * MAX_PROBLEM_COEFFICIENT)) s
    → IsWithin (2 ^ 50) m → IsWithin MAX_PROBLEM_COEFFICIENT a → FitsSigned w128 (s +ℤ m *ℤ a)
term_fits k s m a b size mult entry = fits_from_within w128 (within_sum size (within_product mult entry)) (omega arith)

pub term_size : (k : ℕ) (s m a : ℤ) → IsWithin (k * (2 ^ 50 * MAX_PROBLEM_COEFFICIENT)) s
    → IsWithin (2 ^ 50) m → IsWithin MAX_PROBLEM_COEFFICIENT a
    → IsWithin ((k + 1) * (2 ^ 50 * MAX_PROBLEM_COEFFICIENT)) (s +ℤ m *ℤ a)
term_size k s m a size mult entry = within_more (within_sum size (within_product mult entry)) (omega arith)

-- a multiplier of a unit is within its limit, and a unit is short
pub multiplier_small : (n : ℕ) (unit : List (ℕ × ℤ)) (t : ℕ) (d : ℕ × ℤ) → IsUnitFrom 0 n unit → t < length unit
    → IsWithin (2 ^ 50) (slice_index_or unit t d).1
multiplier_small n unit t d u b =
    let h = unit_term 0 n unit t d u b in
    let low = h.1 in
    let high = h.2 in
    within_from_bounds (2 ^ 50) (slice_index_or unit t d).1 (omega (arith, ints)) (omega (arith, ints))

pub unit_short : (n : ℕ) (unit : List (ℕ × ℤ)) (t : ℕ) → IsUnitFrom 0 n unit → t < length unit → t < n
unit_short n unit t u b =
    elim (unit_length 0 n unit u) [
      | inl c ↦ omega arith
      | inr e ↦ let none : length unit ≡ 0 = ap length e in absurd (omega arith)
    ]

-- ---- sums of columns

pub sums_more : (n : ℕ) (f : ℕ → ℤ) (old new : List ℤ) (j : ℕ) (y : ℤ) → j < n
    → old ≡ take j (map f (range_with_len 0 n)) → y ≡ f j → new ≡ old ++ y ∷ []
    → new ≡ take (j + 1) (map f (range_with_len 0 n))
sums_more n f old new j y b before at pushed =
    let l = length-range_with_len 0 n in
    let e : slice_index_or (range_with_len 0 n) j 0 ≡ j = get_or-range_with_len 0 n j 0 b ∙ (let x : 0 + j
    ≡ j = omega arith in x) in
    map_more f (range_with_len 0 n) old new j 0 y (omega arith) before (at ∙ ap f (sym e)) pushed

pub sum_entry : (n : ℕ) (f : ℕ → ℤ) (j : ℕ) → j < n → component (map f (range_with_len 0 n)) j ≡ f j
sum_entry n f j b = get_or-map-range_with_len f 0 n j j (pos 0) b (omega arith)

-- a sum that is too large is among them
pub sums_too_large : (n : ℕ) (f : ℕ → ℤ) (j m : ℕ) → j < n → ¬ IsWithin m (f j)
    → ¬ AreWithin m (map f (range_with_len 0 n))
sums_too_large n f j m b large all =
    let l = length-map-range_with_len f 0 n in
    large (subst (IsWithin m) (sum_entry n f j b) (all.each j (omega arith)))

pub sums_small : (n : ℕ) (f : ℕ → ℤ) (m : ℕ)
    → ((j : ℕ) → j < n → IsWithin m (component (map f (range_with_len 0 n)) j))
    → AreWithin m (map f (range_with_len 0 n))
sums_small n f m h = record { each = λ j b. h j (let l = length-map-range_with_len f 0 n in omega arith) }

pub small_more : (n : ℕ) (f : ℕ → ℤ) (m j : ℕ) → j < n
    → ((i : ℕ) → i < j → IsWithin m (component (map f (range_with_len 0 n)) i)) → IsWithin m (f j)
    → (i : ℕ) → i < j + 1 → IsWithin m (component (map f (range_with_len 0 n)) i)
small_more n f m j b before here i c =
    elim (cases_eq i j) [
      | inl e ↦ subst (λ (k : ℕ). IsWithin m (component (map f (range_with_len 0 n)) k)) (sym e)
          (subst (IsWithin m) (sym (sum_entry n f j b)) here)
      | inr ne ↦ before i (omega arith)
    ]

pub all_sums : (n : ℕ) (f : ℕ → ℤ) (xs : List ℤ) (j : ℕ) → n ≤ j → xs ≡ take j (map f (range_with_len 0 n))
    → xs ≡ map f (range_with_len 0 n)
all_sums n f xs j b e =
    let l = length-map-range_with_len f 0 n in
    e ∙ take_all j (map f (range_with_len 0 n)) (omega arith)

-- ---- rows at a point

-- a row that fits, at a point of a model's box
pub point_fits : (p : Program) (rows : List Linear) (i : ℕ) (r : Linear) (z : List ℤ) → IsModel p
    → AreRows (columns p) rows → InBox p z → i < length rows → r ≡ linear_at rows i → PartialDotsFit w128 r.coef z
point_fits p rows i r z model fit inside b e =
    let n = fit.columns i b in
    let few = model.limits.few_columns in
    subst (λ (x : Linear). PartialDotsFit w128 x.coef z) (sym e)
    (dots_fit w128 (fit.coefs i b) (point_within p z model inside) (omega arith))

pub point_places : (p : Program) (rows : List Linear) (i : ℕ) (r : Linear) (z : List ℤ)
    → AreRows (columns p) rows → InBox p z → i < length rows → r ≡ linear_at rows i → length z ≡ length r.coef
point_places p rows i r z fit inside b e =
    inside.columns ∙ sym (fit.columns i b) ∙ ap (λ (x : Linear). length x.coef) (sym e)

pub combined_more : (n : ℕ) (rows : List Linear) (unit : List (ℕ × ℤ)) (col k : ℕ) (s r : ℤ)
    → AreRows n rows → IsUnitFrom 0 (length rows) unit → k < length unit
    → combined rows unit col ≡ s +ℤ combined rows (drop k unit) col
    → IsWithin (k * (2 ^ 50 * MAX_PROBLEM_COEFFICIENT)) s
    → r ≡ s +ℤ (slice_index_or unit k (0, pos 0)).1
    *ℤ component (linear_at rows (slice_index_or unit k (0, pos 0)).0).coef col
    → (combined rows unit col ≡ r +ℤ combined rows (drop (k + 1) unit) col)
    × IsWithin ((k + 1) * (2 ^ 50 * MAX_PROBLEM_COEFFICIENT)) r
combined_more n rows unit col k s r fit u b value size e =
    let x = slice_index_or unit k (0, pos 0) in
    let place = (unit_term 0 (length rows) unit k (0, pos 0) u b).0 in
    let entry = component (linear_at rows x.0).coef col in
    let next = combined_next rows unit k col (0, pos 0) b in
    let here : suc k ≡ k + 1 = omega arith in
    let same : combined rows (drop (suc k) unit) col ≡ combined rows (drop (k + 1) unit) col =
    ap (λ j. combined rows (drop j unit) col) here in (
      omega (arith, ints),
      subst (IsWithin ((k + 1) * (2 ^ 50 * MAX_PROBLEM_COEFFICIENT))) (sym e)
          (term_size k s x.1 entry size (multiplier_small (length rows) unit k (0, pos 0) u b)
          (within_entry (fit.coefs x.0 place) col)),
    )

-- the place and the column of a term are there
pub term_column : (n : ℕ) (rows : List Linear) (unit : List (ℕ × ℤ)) (col k : ℕ) → AreRows n rows
    → IsUnitFrom 0 (length rows) unit → k < length unit → col < n
    → col < length (linear_at rows (slice_index_or unit k (0, pos 0)).0).coef
term_column n rows unit col k fit u b c =
    let e = fit.columns (slice_index_or unit k (0, pos 0)).0
    (unit_term 0 (length rows) unit k (0, pos 0) u b).0 in
    omega arith

pub lowered_fits : (m : ℕ) (s : ℤ) → m < 2 ^ 32 → IsWithin (m * MAX_PROBLEM_RHS) s → FitsSigned w128 (s -ℤ pos 1)
lowered_fits m s b size =
    fits_from_within w128 (within_difference {n = 1} {b = pos 1} size (record {
      magnitude =
          omega arith;
    })) (omega arith)
