-- The rows of cuts, and those that a cut adds up, are within the limits of a problem.
use Rattle.std.proofs.Common.{◌≡◌, ℕ, zero, suc, ◌<◌, List, [], ◌∷◌, length, refl, sym, ap, subst, ◌∙◌, arith}
use Rattle.std.proofs.Common.{inl, inr, ◌++◌}
use Rattle.std.specs.Prelude.{ℤ, pos, negsuc, neg_ℤ, All, map, slice_index_or, slice_set}
use Rattle.std.proofs.lemmas.Bool.{cases_eq}
use Rattle.std.proofs.lemmas.Int.{ints}
use Rattle.std.proofs.lemmas.List.{length-map, length-set, get_or-map, get_or-set_same, get_or-set_other}
use Rattle.std.proofs.lemmas.List.FromFn.{length-map-range_with_len}
use Rattle.bl_limits.specs.declared.TheConstants.{MAX_NUMBER, MAX_PROBLEM_COEFFICIENT, MAX_PROBLEM_RHS}
use Rattle.bl_whole.specs.Sums.{component, sum_below}
use Rattle.bl_whole.specs.Within.{IsWithin, AreWithin}
use Rattle.bl_whole.proofs.WithinLemmas.{within_from_bounds, within_high, within_low, within_more, within_negation}
use Rattle.bl_whole.proofs.WithinLemmas.{within_zero}
use Rattle.bl_terms.specs.Points.{Area, IsArea, IsWithinArea, Linear, zeros}
use Rattle.bl_terms.specs.Programs.{Program, columns, root}
use Rattle.bl_terms.specs.Bounds.{linear_at, no_linear}
use Rattle.bl_model.specs.View.{IsModel}
use Rattle.bl_cut_terms.specs.declared.parts.Tight.{Tight}
use Rattle.bl_cut_terms.specs.declared.parts.Tight.TheVariants.{Row, Upper, Lower, Cut}
use Rattle.bl_cut_terms.specs.NoGoods.{CutStep, LocalRow, AreCutSteps, IsCutStep, IsThere, last_step, local_row}
use Rattle.bl_cut_terms.specs.NoGoods.{local_row_at, no_local_row, tight_row, tight_rows}
use Rattle.bl_cut_terms.proofs.NoGoodLemmas.{zero_at, length-zeros}
use Rattle.bl_cut_proof.specs.Rows.{AreRows}
use Rattle.bl_check_terms.specs.Reading.{before_last}
use Rattle.bl_check_terms.proofs.Lasts.{EndsIn}
use Rattle.bl_check_state.specs.Saying.{AreCutRows, IsBegun, last_row}

-- a row of n columns with numbers within the limits of a problem
pub record IsFitRow (n : ℕ) (r : Linear) : Type 0 where
  pub columns : length r.coef ≡ n
  pub coefs : AreWithin MAX_PROBLEM_COEFFICIENT r.coef
  pub rhs : IsWithin MAX_PROBLEM_RHS r.rhs

are_rows : (n : ℕ) (rows : List Linear) → ((i : ℕ) → i < length rows → IsFitRow n (linear_at rows i)) → AreRows n rows
are_rows n rows h =
    record { columns = λ i b. (h i b).columns; coefs = λ i b. (h i b).coefs; rhs = λ i b. (h i b).rhs }

-- ---- cuts

step_fits : (p : Program) (earlier : List LocalRow) (s : CutStep) → IsCutStep p earlier s → IsFitRow (columns p) s.row
step_fits p earlier s h =
    let rows = tight_rows p s.area earlier s.parts.tight in
    record {
      columns = ap (λ (r : Linear). length r.coef) h.row
          ∙ length-map-range_with_len (λ j. sum_below (length rows) (λ i. component (linear_at rows i).coef j)) 0
          (columns p);
      coefs = subst (λ (r : Linear). AreWithin MAX_PROBLEM_COEFFICIENT r.coef) (sym h.row) h.shown.size.coef;
      rhs = subst (λ (r : Linear). IsWithin MAX_PROBLEM_RHS r.rhs) (sym h.row) h.shown.size.rhs;
    }

-- the rows of cut steps
abbrev step_rows : List CutStep → List Linear
step_rows steps = map (λ r. r.row) (map local_row steps)

steps_fit : (p : Program) (earlier : List LocalRow) (steps : List CutStep) → AreCutSteps p earlier steps → (i : ℕ)
    → i < length (step_rows steps) → IsFitRow (columns p) (linear_at (step_rows steps) i)
steps_fit p earlier [] h i b = absurd (omega arith)
steps_fit p earlier (s ∷ steps) h zero b = step_fits p earlier s h.0
steps_fit p earlier (s ∷ steps) h (suc i) b = steps_fit p (earlier ++ local_row s ∷ []) steps h.1 i (omega arith)

pub cut_rows : (p : Program) (steps : List CutStep) → AreCutSteps p [] steps → AreCutRows p (map local_row steps)
cut_rows p steps h = are_rows (columns p) (step_rows steps) (steps_fit p [] steps h)

-- ---- the last cut

last_is : (steps : List CutStep) → last_row (map local_row steps) ≡ local_row (last_step steps)
last_is [] = refl
last_is (s ∷ []) = refl
last_is (s ∷ t ∷ steps) = last_is (t ∷ steps)

before_is : (steps : List CutStep) → before_last (map local_row steps) ≡ map local_row (before_last steps)
before_is [] = refl
before_is (s ∷ []) = refl
before_is (s ∷ t ∷ steps) = ap (λ (rs : List LocalRow). local_row s ∷ rs) (before_is (t ∷ steps))

-- a list that ends in an element isn't empty
pub some_step : (steps : List CutStep) → EndsIn last_step steps → 0 < length steps
some_step [] h = absurd (none (before_last []) (last_step []) h.whole)
  where
    none : (before : List CutStep) (s : CutStep) → [] ≡ before ++ s ∷ [] → ⊥
    none [] s e = cc
    none (x ∷ before) s e = cc
some_step (s ∷ steps) h = omega arith

-- a cut was begun
pub begun : (p : Program) (steps : List CutStep) → EndsIn last_step steps → AreCutSteps p [] (before_last steps)
    → IsArea (last_step steps).area → IsWithinArea (last_step steps).area (root p) → IsBegun p (map local_row steps)
begun p steps ends shown area within = record {
  some = let some = some_step steps ends in omega (arith, length-map steps local_row);
  area = subst (λ (r : LocalRow). IsArea r.area) (sym (last_is steps)) area;
  within = subst (λ (r : LocalRow). IsWithinArea r.area (root p)) (sym (last_is steps)) within;
  earlier = subst (AreCutRows p) (sym (before_is steps)) (cut_rows p (before_last steps) shown);
}

-- ---- the rows that a cut adds up

-- a side of a box within the program's
upper_small : (p : Program) (a : Area) (j : ℕ) → IsModel p → IsArea a → IsWithinArea a (root p) → j < columns p
    → IsWithin MAX_NUMBER (component a.hi j)
upper_small p a j g area within b =
    let size = within.columns in
    let low = within_low (g.limits.lower_bounds j) in
    let high = within_high (g.limits.upper_bounds j) in
    let least = within.least j b in
    let most = within.most j b in
    let ordered = area.ordered j (omega arith) in
    within_from_bounds MAX_NUMBER (component a.hi j) (omega (arith, ints)) (omega (arith, ints))

lower_small : (p : Program) (a : Area) (j : ℕ) → IsModel p → IsArea a → IsWithinArea a (root p) → j < columns p
    → IsWithin MAX_NUMBER (component a.lo j)
lower_small p a j g area within b =
    let size = within.columns in
    let low = within_low (g.limits.lower_bounds j) in
    let high = within_high (g.limits.upper_bounds j) in
    let least = within.least j b in
    let most = within.most j b in
    let ordered = area.ordered j (omega arith) in
    within_from_bounds MAX_NUMBER (component a.lo j) (omega (arith, ints)) (omega (arith, ints))

side_fits : (n j : ℕ) (c b : ℤ) → j < n → IsWithin 1 c → IsWithin MAX_NUMBER b
    → IsFitRow n (record { coef = slice_set (zeros n) j c; rhs = b })
side_fits n j c b below small within = record {
  columns = length-set (zeros n) j c ∙ length-zeros n;
  coefs = record {
    each = λ k l. elim (cases_eq k j) [
      | inl e ↦
          let b' : j < length (zeros n) = rw length-zeros below in
          let at : component (slice_set (zeros n) j c) k ≡ c =
          ap (component (slice_set (zeros n) j c)) e ∙ get_or-set_same (zeros n) j c (pos 0) b' in
          subst (IsWithin MAX_PROBLEM_COEFFICIENT) (sym at) (within_more small (omega arith))
      | inr ne ↦
          let at : component (slice_set (zeros n) j c) k ≡ pos 0 =
          get_or-set_other (zeros n) j k c (pos 0) ne ∙ zero_at n k in
          subst (IsWithin MAX_PROBLEM_COEFFICIENT) (sym at) (within_zero MAX_PROBLEM_COEFFICIENT)
    ];
  };
  rhs = within_more within (omega arith);
}

item_fits : (p : Program) (a : Area) (earlier : List LocalRow) (x : Tight) → IsModel p → IsArea a
    → IsWithinArea a (root p) → AreCutRows p earlier → IsThere p a earlier x
    → IsFitRow (columns p) (tight_row p a earlier x)
item_fits p a earlier (Row i) g area within cuts there = record {
  columns = g.sound.row_columns i there;
  coefs = record { each = λ k b. within_more (g.limits.coefs i k there) (omega arith) };
  rhs = within_more (g.limits.rhs i there) (omega arith);
}
item_fits p a earlier (Upper j) g area within cuts there =
    side_fits (columns p) j (pos 1) (component a.hi j) there (record { magnitude = omega arith })
    (upper_small p a j g area within there)
item_fits p a earlier (Lower j) g area within cuts there =
    side_fits (columns p) j (negsuc 0) (neg_ℤ (component a.lo j)) there (record { magnitude = omega arith })
    (within_negation (lower_small p a j g area within there))
item_fits p a earlier (Cut k) g area within cuts there =
    let row_of : LocalRow → Linear = λ r. r.row in
    let b : k < length (map row_of earlier) = let below = there.0 in omega (arith, length-map earlier row_of) in
    let same : linear_at (map row_of earlier) k ≡ (local_row_at earlier k).row =
    get_or-map row_of earlier k no_local_row no_linear there.0 in
    subst (IsFitRow (columns p)) same
    (record { columns = cuts.columns k b; coefs = cuts.coefs k b; rhs = cuts.rhs k b })

pub tight_fit : (p : Program) (a : Area) (earlier : List LocalRow) (tight : List Tight) → IsModel p → IsArea a
    → IsWithinArea a (root p) → AreCutRows p earlier → All (IsThere p a earlier) tight
    → AreRows (columns p) (tight_rows p a earlier tight)
tight_fit p a earlier tight g area within cuts there =
    are_rows (columns p) (tight_rows p a earlier tight) (λ i b.
    let below : i < length tight = omega (arith, length-map tight (tight_row p a earlier)) in
    subst (IsFitRow (columns p)) (sym (get_or-map (tight_row p a earlier) tight i (Row 0) no_linear below))
    (item_fits p a earlier (slice_index_or tight i (Row 0)) g area within cuts (there i (Row 0) below)))
