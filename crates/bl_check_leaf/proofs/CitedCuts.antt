-- The cuts that are kept, as those that a leaf cites.
use Rattle.std.proofs.Common.{◌≡◌, ℕ, ◌<◌, ◌≤◌, refl, sym, ◌∙◌, ap, subst, arith, List, [], ◌∷◌, ◌++◌, length}
use Rattle.std.specs.Prelude.{ℤ, map, All, ◌↔◌, unsigned_abs, slice_index_or, Option, MatchOption, ◌^◌}
use Rattle.std.proofs.Math.ListN.{get_or-map}
use Rattle.std.proofs.lemmas.List.{length-map, length-append}
use Rattle.std.proofs.lemmas.List.Elements.{All-append, All-cons, All-map}
use Rattle.bl_limits.specs.declared.TheConstants.{MAX_CUTS}
use Rattle.bl_whole.specs.Within.{IsWithin}
use Rattle.bl_terms.specs.Points.{Area, IsWithinArea, Linear}
use Rattle.bl_terms.specs.Programs.{Program, columns, inequality, root}
use Rattle.bl_terms.specs.Bounds.{Fits, linear_at}
use Rattle.bl_model.specs.View.{IsModel}
use Rattle.bl_model.specs.Boxes.{IsBox}
use Rattle.bl_cut_terms.specs.NoGoods.{CutStep, LocalRow, local_row, local_row_at, no_step, step_at}
use Rattle.bl_cut_proof.specs.Rows.{AreRows}
use Rattle.bl_leaf_terms.specs.Nodes.{plain_problem}
use Rattle.bl_leaf_terms.specs.Leaves.{leaf_problem, value_place}
use Rattle.bl_tree.proofs.Problems.{IsSmallRow, box_fits, model_rows, value_place_small}
use Rattle.bl_cert_terms.specs.Certificates.{IsCited}
use Rattle.bl_certtext.specs.Places.{IsPlace}
use Rattle.bl_check_terms.proofs.Numbers.{placed_number}
use Rattle.bl_check_state.specs.Saying.{AreCutRows}
use Rattle.bl_check_leaf.specs.Kept.{LiesInCited, cited_rows, cut_named}

-- ---- boxes and rows

kept_cut : (kept : List LocalRow) (cuts : List CutStep) (k : ℕ) → kept ≡ map local_row cuts
    → local_row_at kept k ≡ local_row (step_at cuts k)
kept_cut kept cuts k e = ap (λ (rows : List LocalRow). local_row_at rows k) e ∙ get_or-map local_row cuts k no_step

-- the box lies in the boxes of the cuts that are kept exactly where these are cited
pub cited_boxes : (kept : List LocalRow) (cuts : List CutStep) (a : Area) (cited : List ℤ) → kept ≡ map local_row cuts
    → All (IsPlace (length kept)) cited → LiesInCited a kept cited ↔ All (IsCited cuts a) (map unsigned_abs cited)
cited_boxes kept cuts a cited e there = (
  λ h. All-map (IsCited cuts a) unsigned_abs cited (λ k d b.
      let i = slice_index_or cited k d in
      let below = (placed_number (length kept) i (there k d b)).1 in
      let count : length kept ≡ length cuts = ap length e ∙ length-map cuts local_row in
      record {
        below = omega arith;
        within = subst (λ (c : LocalRow). IsWithinArea a c.area) (kept_cut kept cuts (unsigned_abs i) e) (h k d b);
      }),
  λ h k d b.
      let i = slice_index_or cited k d in
      let named = h k (unsigned_abs d) (rw length-map b) in
      let at : slice_index_or (map unsigned_abs cited) k (unsigned_abs d) ≡ unsigned_abs i =
      get_or-map unsigned_abs cited k d in
      subst (λ (c : LocalRow). IsWithinArea a c.area) (sym (kept_cut kept cuts (unsigned_abs i) e))
      (subst (λ (n : ℕ). IsCited cuts a n) at named).within,
)

pub cited_rows_are : (kept : List LocalRow) (cuts : List CutStep) (cited : List ℤ) → kept ≡ map local_row cuts
    → cited_rows kept cited ≡ map (λ k. (step_at cuts k).row) (map unsigned_abs cited)
cited_rows_are kept cuts [] e = refl
cited_rows_are kept cuts (i ∷ cited) e =
    ap (λ (c : LocalRow). c.row ∷ cited_rows kept cited) (kept_cut kept cuts (unsigned_abs i) e)
    ∙ ap (λ (rows : List Linear). (step_at cuts (unsigned_abs i)).row ∷ rows) (cited_rows_are kept cuts cited e)

-- ---- sizes

row_named : (kept : List LocalRow) (k : ℕ) → linear_at (map (λ c. c.row) kept) k ≡ (local_row_at kept k).row
row_named kept k = get_or-map (λ (c : LocalRow). c.row) kept k (local_row no_step)

pub named_small : (n : ℕ) (kept : List LocalRow) (i : ℤ) → AreRows n (map (λ c. c.row) kept)
    → IsPlace (length kept) i → IsSmallRow n (cut_named kept i).row
named_small n kept i rows place =
    let below = (placed_number (length kept) i place).1 in
    let b : unsigned_abs i < length (map (λ (c : LocalRow). c.row) kept) = rw length-map below in
    subst (IsSmallRow n) (row_named kept (unsigned_abs i)) (record {
      size = rows.columns (unsigned_abs i) b;
      coef = rows.coefs (unsigned_abs i) b;
      rhs = rows.rhs (unsigned_abs i) b;
    })

cited_small : (n : ℕ) (kept : List LocalRow) (cited : List ℤ) → AreRows n (map (λ c. c.row) kept)
    → All (IsPlace (length kept)) cited → All (IsSmallRow n) (cited_rows kept cited)
cited_small n kept cited rows there =
    All-map (IsSmallRow n) (λ i. (cut_named kept i).row) cited
    (λ k d b. named_small n kept (slice_index_or cited k d) rows (there k d b))

-- the problem of a leaf is small enough, since the one without its cuts is
pub leaf_fits : (p : Program) (a : Area) (value : Option ℤ) (kept : List LocalRow) (cited : List ℤ) → IsModel p
    → Fits (plain_problem p a value) → IsWithinArea a (root p) → MatchOption value (Unit {0}) (IsWithin (2 ^ 62))
    → AreCutRows p kept → All (IsPlace (length kept)) cited → length cited ≤ MAX_CUTS
    → Fits (leaf_problem p a value (cited_rows kept cited))
leaf_fits p a value kept cited m plain within small rows there short =
    let few = m.limits.few_rows in
    let size = length-map p.rows inequality in
    let others = length-map cited (λ i. (cut_named kept i).row) in
    let all = length-append (map inequality p.rows) (value_place p value ∷ cited_rows kept cited) in
    let box : IsBox a = record {
      area = plain.shape.box;
      few = plain.few_columns;
      lower_bounds = plain.lower_bounds;
      upper_bounds = plain.upper_bounds;
    } in
    box_fits p a (map inequality p.rows ++ value_place p value ∷ cited_rows kept cited) m box within
    (All-append (IsSmallRow (columns p)) (map inequality p.rows) (value_place p value ∷ cited_rows kept cited)
    (model_rows p m)
    (All-cons (IsSmallRow (columns p)) (value_place p value) (cited_rows kept cited)
    (value_place_small p value m small) (cited_small (columns p) kept cited rows there)))
    (omega arith)
