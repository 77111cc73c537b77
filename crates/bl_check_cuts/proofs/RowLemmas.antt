-- The rows that a cut adds up are small, and what they add up to.
use Rattle.std.proofs.Common.{◌≡◌, ℕ, ◌<◌, sym, ◌∙◌, ap, subst, arith, inl, inr, List}
use Rattle.std.proofs.Common.{length, map}
use Rattle.std.specs.Prelude.{ℤ, pos, negsuc, neg_ℤ, All, slice_index_or, slice_set}
use Rattle.std.proofs.lemmas.Bool.{cases_eq}
use Rattle.std.proofs.lemmas.List.{length-map, get_or-map, get_or-set_same, get_or-set_other, length-set}
use Rattle.bl_limits.specs.declared.TheConstants.{MAX_NUMBER, MAX_PROBLEM_COEFFICIENT, MAX_PROBLEM_RHS}
use Rattle.bl_whole.specs.Sums.{component}
use Rattle.bl_whole.specs.Within.{IsWithin, AreWithin}
use Rattle.bl_whole.proofs.WithinLemmas.{within_more, within_zero, within_negation, within_entry}
use Rattle.bl_terms.specs.Bounds.{linear_at, no_linear}
use Rattle.bl_terms.specs.Points.{Area, Linear, zeros}
use Rattle.bl_terms.specs.Programs.{Program, columns}
use Rattle.bl_model.specs.Boxes.{IsBox}
use Rattle.bl_model.specs.View.{IsModel}
use Rattle.bl_cut_terms.specs.declared.parts.Tight.{Tight}
use Rattle.bl_cut_terms.specs.declared.parts.Tight.TheVariants.{Row, Upper, Lower, Cut}
use Rattle.bl_cut_terms.specs.NoGoods.{IsThere, LocalRow, local_row_at, no_local_row, tight_row, tight_rows}
use Rattle.bl_cut_terms.proofs.NoGoodLemmas.{zero_at, length-zeros}
use Rattle.bl_cut_proof.specs.Rows.{AreRows}
use Rattle.bl_certline.specs.declared.line.TightItem.{TightItem}
use Rattle.bl_check_terms.specs.Values.{tight_of}
use Rattle.bl_check_state.specs.Saying.{AreCutRows}

-- ---- sizes

-- a row of n columns with numbers within the limits of a problem
record FitsRow (n : ℕ) (r : Linear) : Type 0 where
  pub columns : length r.coef ≡ n
  pub coefs : AreWithin MAX_PROBLEM_COEFFICIENT r.coef
  pub rhs : IsWithin MAX_PROBLEM_RHS r.rhs

side_fits : (n j : ℕ) (c b : ℤ) → j < n → IsWithin 1 c → IsWithin MAX_NUMBER b
    → FitsRow n (record { coef = slice_set (zeros n) j c; rhs = b })
side_fits n j c b below small within = record {
  columns = length-set (zeros n) j c ∙ length-zeros n;
  coefs = record {
    each = λ k l. elim (cases_eq k j) [
      | inl e ↦
          let b' : j < length (zeros n) = rw length-zeros below in
          let at : component (slice_set (zeros n) j c) k ≡ c =
          ap (component (slice_set (zeros n) j c)) e ∙ get_or-set_same (zeros n) j c (pos 0) b' in
          subst (IsWithin MAX_PROBLEM_COEFFICIENT) (sym at) (within_more small (omega arith))
      | inr ne ↦
          let at : component (slice_set (zeros n) j c) k ≡ pos 0 =
          get_or-set_other (zeros n) j k c (pos 0) ne ∙ zero_at n k in
          subst (IsWithin MAX_PROBLEM_COEFFICIENT) (sym at) (within_zero MAX_PROBLEM_COEFFICIENT)
    ];
  };
  rhs = within_more within (omega arith);
}

-- the row of an earlier cut
earlier_fits : (n : ℕ) (earlier : List LocalRow) (k : ℕ) → AreRows n (map (λ r. r.row) earlier) → k < length earlier
    → FitsRow n (local_row_at earlier k).row
earlier_fits n earlier k rows b =
    let row : LocalRow → Linear = λ r. r.row in
    let b' : k < length (map row earlier) = rw length-map b in
    subst (FitsRow n) (get_or-map row earlier k no_local_row no_linear b) (record {
      columns = rows.columns k b';
      coefs = rows.coefs k b';
      rhs = rows.rhs k b';
    })

item_fits : (p : Program) (a : Area) (earlier : List LocalRow) (x : Tight) → IsModel p → IsBox a
    → length a.lo ≡ columns p → AreCutRows p earlier → IsThere p a earlier x
    → FitsRow (columns p) (tight_row p a earlier x)
item_fits p a earlier (Row i) model box e rows there = record {
  columns = model.sound.row_columns i there;
  coefs = record { each = λ k b. within_more (model.limits.coefs i k there) (omega arith) };
  rhs = within_more (model.limits.rhs i there) (omega arith);
}
item_fits p a earlier (Upper j) model box e rows there =
    side_fits (columns p) j (pos 1) (component a.hi j) there (record { magnitude = omega arith })
    (within_entry box.upper_bounds j)
item_fits p a earlier (Lower j) model box e rows there =
    side_fits (columns p) j (negsuc 0) (neg_ℤ (component a.lo j)) there (record { magnitude = omega arith })
    (within_negation (within_entry box.lower_bounds j))
item_fits p a earlier (Cut k) model box e rows there = earlier_fits (columns p) earlier k rows there.0

pub rows_fit : (p : Program) (a : Area) (earlier : List LocalRow) (tight : List Tight) (n : ℕ) (rows : List Linear)
    → IsModel p → IsBox a → length a.lo ≡ columns p → AreCutRows p earlier → All (IsThere p a earlier) tight
    → n ≡ columns p → rows ≡ tight_rows p a earlier tight → AreRows n rows
rows_fit p a earlier tight n rows model box e small there count same =
    let f : (i : ℕ) → i < length (tight_rows p a earlier tight)
    → FitsRow (columns p) (linear_at (tight_rows p a earlier tight) i) =
    λ i b.
    let b' : i < length tight = rw length-map at b in
    subst (FitsRow (columns p)) (sym (get_or-map (tight_row p a earlier) tight i (Row 0) no_linear b'))
    (item_fits p a earlier (slice_index_or tight i (Row 0)) model box e small (there i (Row 0) b')) in
    subst (λ (m : ℕ). AreRows m rows) (sym count)
    (subst (AreRows (columns p)) (sym same)
    (record { columns = λ i b. (f i b).columns; coefs = λ i b. (f i b).coefs; rhs = λ i b. (f i b).rhs }))

-- an item that isn't there
pub not_there : (p : Program) (a : Area) (earlier : List LocalRow) (items : List TightItem) (i : ℕ) (d : TightItem)
    → i < length items → ¬ IsThere p a earlier (tight_of (slice_index_or items i d))
    → ¬ All (IsThere p a earlier) (map tight_of items)
not_there p a earlier items i d b absent all =
    let b' : i < length (map tight_of items) = rw length-map b in
    absent (subst (IsThere p a earlier) (get_or-map tight_of items i d (Row 0) b) (all i (Row 0) b'))
