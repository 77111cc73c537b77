-- The problems of a box fit, and the value of an entry is small.
use Rattle.std.proofs.Common.{◌≡◌, ℕ, zero, suc, ◌^◌, ◌<◌, ◌≤◌, refl, sym, ◌∙◌, ap, subst, arith}
use Rattle.std.proofs.Common.{List, [], ◌∷◌, ◌++◌, length}
use Rattle.std.specs.Prelude.{ℤ, pos, map, Option, Some, None, MatchOption, All, slice_index}
use Rattle.std.specs.Prelude.{slice_index_or}
use Rattle.std.proofs.lemmas.Int.{ints}
use Rattle.std.proofs.lemmas.List.{length-map, length-append, get_or_default}
use Rattle.std.proofs.lemmas.List.Elements.{All-append, All-map}
use Rattle.bl_limits.specs.declared.TheConstants.{MAX_NUMBER, MAX_CUTS}
use Rattle.bl_limits.specs.declared.TheConstants.{MAX_PROBLEM_ROWS, MAX_PROBLEM_COEFFICIENT, MAX_PROBLEM_RHS}
use Rattle.bl_whole.specs.Sums.{component}
use Rattle.bl_whole.specs.Within.{IsWithin, AreWithin}
use Rattle.bl_whole.proofs.WithinLemmas.{within_low, within_high, within_from_bounds, within_more, within_zero}
use Rattle.bl_whole.proofs.WithinLemmas.{within_dot}
use Rattle.bl_terms.specs.Points.{Area, IsWithinArea, Linear, zeros}
use Rattle.bl_terms.specs.Programs.{Program, Row, columns, row_at, no_row, inequality, root}
use Rattle.bl_terms.specs.Responses.{Entry, Best, IsTrueEntry, IsResponse, response_cost}
use Rattle.bl_terms.specs.Bounds.{Fits, no_linear}
use Rattle.bl_model.specs.View.{IsModel}
use Rattle.bl_model.specs.Boxes.{IsBox}
use Rattle.bl_fproof.specs.Entries.{Admitted, IsAdmitted}
use Rattle.bl_fproof.specs.Steps.{entry_of}
use Rattle.bl_fproof.proofs.Picks.{values_within}
use Rattle.bl_fproof.proofs.Problems.{follower_few}
use Rattle.bl_fproof.proofs.Truth.{admitted_is_true}
use Rattle.bl_cut_terms.specs.NoGoods.{NoGoodCut, cut_of}
use Rattle.bl_cut.specs.Cuts.{IsProvedCut}
use Rattle.bl_cut.proofs.CutLemmas.{row_columns, row_within, rhs_within}
use Rattle.bl_leaf_terms.specs.Nodes.{value_row, plain_problem}
use Rattle.bl_leaf_terms.specs.Leaves.{value_place, leaf_problem}
use Rattle.bl_tree.specs.Closing.{rows_of}

-- ---- rows

-- a row of n columns whose numbers are within the limits of a problem
pub record IsSmallRow (n : ℕ) (r : Linear) : Type 0 where
  pub size : length r.coef ≡ n
  pub coef : AreWithin MAX_PROBLEM_COEFFICIENT r.coef
  pub rhs : IsWithin MAX_PROBLEM_RHS r.rhs

model_row : (p : Program) (i : ℕ) → IsModel p → i < length p.rows
    → IsSmallRow (columns p) (inequality (row_at p.rows i))
model_row p i m b = record {
  size = m.sound.row_columns i b;
  coef = record { each = λ k _. within_more (m.limits.coefs i k b) (omega arith) };
  rhs = within_more (m.limits.rhs i b) (omega arith);
}

pub model_rows : (p : Program) → IsModel p → All (IsSmallRow (columns p)) (map inequality p.rows)
model_rows p m =
    All-map (IsSmallRow (columns p)) inequality p.rows
    (λ i d b. subst (λ (r : Row). IsSmallRow (columns p) (inequality r)) (get_or_default p.rows i no_row d b)
    (model_row p i m b))

one_row : (P : Linear → Type 0) (r : Linear) → P r → All P (r ∷ [])
one_row P r h zero d b = h
one_row P r h (suc k) d b = absurd (omega arith)

zeros_size : (n : ℕ) → length (zeros n) ≡ n
zeros_size zero = refl
zeros_size (suc n) = ap suc (zeros_size n)

zero_at : (n k : ℕ) → component (zeros n) k ≡ pos 0
zero_at zero k = refl
zero_at (suc n) zero = refl
zero_at (suc n) (suc k) = zero_at n k

pub value_row_small : (p : Program) (v : ℤ) → IsModel p → IsWithin (2 ^ 62) v
    → IsSmallRow (columns p) (value_row p v)
value_row_small p v m small = record {
  size = m.sound.follower_cost_columns;
  coef = record { each = λ k _. within_more (m.limits.follower_costs k) (omega arith) };
  rhs = within_more small (omega arith);
}

pub value_place_small : (p : Program) (value : Option ℤ) → IsModel p → MatchOption value (Unit {0}) (IsWithin (2 ^ 62))
    → IsSmallRow (columns p) (value_place p value)
value_place_small p None m small = record {
  size = zeros_size (columns p);
  coef = record { each = λ k _. rw (zero_at (columns p) k) (within_zero MAX_PROBLEM_COEFFICIENT) };
  rhs = within_zero MAX_PROBLEM_RHS;
}
value_place_small p (Some v) m small = value_row_small p v m small

-- the row of a cut
pub cut_row_small : (c : NoGoodCut) → IsProvedCut c → IsSmallRow (columns c.program) (cut_of c).row
cut_row_small c is = record { size = row_columns c is; coef = row_within c is; rhs = rhs_within c is }

pub cut_rows : (p : Program) (cuts : List NoGoodCut) → All (λ c. c.program ≡ p) cuts → All IsProvedCut cuts
    → All (IsSmallRow (columns p)) (rows_of cuts)
cut_rows p cuts of_program proved =
    All-map (IsSmallRow (columns p)) (λ c. (cut_of c).row) cuts
    (λ k d b. let c = slice_index_or cuts k d in
    subst (λ (x : Program). IsSmallRow (columns x) (cut_of c).row) (of_program k d b)
    (cut_row_small c (proved k d b)))

-- ---- problems

-- rows that are small make a problem of the box that fits
pub box_fits : (p : Program) (a : Area) (rows : List Linear) → IsModel p → IsBox a → IsWithinArea a (root p)
    → All (IsSmallRow (columns p)) rows → length rows ≤ MAX_PROBLEM_ROWS
    → Fits (record { rows = rows; cost = p.cost; area = a })
box_fits p a rows m is within small few = record {
  shape = record {
    box = is.area;
    cost_columns = m.sound.cost_columns ∙ sym within.columns;
    row_columns = λ i b. (small i no_linear b).size ∙ sym within.columns;
  };
  few_columns = is.few;
  few_rows = few;
  coefs = λ i b. (small i no_linear b).coef;
  rhs = λ i b. (small i no_linear b).rhs;
  costs = record { each = λ k _. m.limits.costs k };
  lower_bounds = is.lower_bounds;
  upper_bounds = is.upper_bounds;
}

pub plain_fits : (p : Program) (a : Area) (value : Option ℤ) → IsModel p → IsBox a → IsWithinArea a (root p)
    → MatchOption value (Unit {0}) (IsWithin (2 ^ 62)) → Fits (plain_problem p a value)
plain_fits p a None m is within small =
    let few = m.limits.few_rows in
    let size = length-map p.rows inequality in
    box_fits p a (map inequality p.rows) m is within (model_rows p m) (omega arith)
plain_fits p a (Some v) m is within small =
    let few = m.limits.few_rows in
    let size = length-map p.rows inequality in
    let all = length-append (map inequality p.rows) (value_row p v ∷ []) in
    box_fits p a (map inequality p.rows ++ value_row p v ∷ []) m is within
    (All-append (IsSmallRow (columns p)) (map inequality p.rows) (value_row p v ∷ []) (model_rows p m)
    (one_row (IsSmallRow (columns p)) (value_row p v) (value_row_small p v m small)))
    (omega arith)

pub leaf_fits : (p : Program) (a : Area) (value : Option ℤ) (cuts : List NoGoodCut) → IsModel p → IsBox a
    → IsWithinArea a (root p) → MatchOption value (Unit {0}) (IsWithin (2 ^ 62)) → All (λ c. c.program ≡ p) cuts
    → All IsProvedCut cuts → length cuts ≤ MAX_CUTS → Fits (leaf_problem p a value (rows_of cuts))
leaf_fits p a value cuts m is within small of_program proved short =
    let few = m.limits.few_rows in
    let size = length-map p.rows inequality in
    let others = length-map cuts (λ c. (cut_of c).row) in
    let all = length-append (map inequality p.rows) (value_place p value ∷ rows_of cuts) in
    box_fits p a (map inequality p.rows ++ value_place p value ∷ rows_of cuts) m is within
    (All-append (IsSmallRow (columns p)) (map inequality p.rows) (value_place p value ∷ rows_of cuts) (model_rows p m)
    (All-append (IsSmallRow (columns p)) (value_place p value ∷ []) (rows_of cuts)
    (one_row (IsSmallRow (columns p)) (value_place p value) (value_place_small p value m small))
    (cut_rows p cuts of_program proved)))
    (omega arith)

-- ---- values

response_within : (p : Program) (l y : List ℤ) → IsModel p → IsResponse p l y → AreWithin MAX_NUMBER y
response_within p l y m r = record {
  each = λ j b.
      let e = r.ranges.count in
      let at : j < length p.follower = omega arith in
      let low = within_low (m.limits.lower_bounds (slice_index p.follower j)) in
      let high = within_high (m.limits.upper_bounds (slice_index p.follower j)) in
      let least = r.ranges.least j at in
      let most = r.ranges.most j at in
      within_from_bounds MAX_NUMBER (component y j) (omega (arith, ints)) (omega (arith, ints));
}

-- what a response costs
pub response_small : (p : Program) (l y : List ℤ) (v : ℤ) → IsModel p → IsResponse p l y → response_cost p y ≡ v
    → IsWithin (2 ^ 62) v
response_small p l y v m response value =
    let costs = values_within MAX_NUMBER p.follower_cost p.follower
    (record { each = λ k _. m.limits.follower_costs k }) in
    let cost = within_dot costs (response_within p l y m response) in
    let size = length-map p.follower (λ k. component p.follower_cost k) in
    let few = follower_few p m in
    subst (IsWithin (2 ^ 62)) value (within_more cost (rw size (omega arith)))

pub value_small : (e : Admitted) (y : List ℤ) (v : ℤ) → IsAdmitted e → entry_of e.answered ≡ Best y v
    → IsWithin (2 ^ 62) v
value_small e y v is best =
    let h : IsTrueEntry e.program e.link (Best y v) =
    subst (λ (x : Entry). IsTrueEntry e.program e.link x) best (admitted_is_true e is) in
    response_small e.program e.link y v is.model h.response h.value
