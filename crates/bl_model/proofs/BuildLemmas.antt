-- What the parts of a program are made of.
use Rattle.std.proofs.Common.{◌≡◌, ℕ, ◌+◌, ◌<◌, Bool, true, false, cond, List, [], ◌∷◌, ◌++◌, append_assoc, ◌∙◌, map}
use Rattle.std.proofs.Common.{get_or, refl, arith, ap}
use Rattle.std.specs.Prelude.{ℤ, pos, All, ◌==◌}
use Rattle.std.specs.List.{range_with_len, AllByRecursion}
use Rattle.std.proofs.lemmas.List.Elements.{recursion_from_All, All-head, All-tail, All-cons, All-nil}
use Rattle.std.proofs.lemmas.List.FromFn.{get_or-map-range_with_len}
use Rattle.bl_whole.specs.Sums.{component}
use Rattle.bl_terms.specs.Points.{is_among}
use Rattle.bl_terms.specs.Programs.{Row}
use Rattle.bl_raw.specs.declared.raw.RawRow.{RawRow}
use Rattle.bl_raw.specs.declared.raw.RawColumn.{RawColumn}
use Rattle.bl_raw.specs.Raw.{IsSmall, IsColumn}
use Rattle.bl_model.specs.Build.{number_for, dense_column, coefficients, rhs_row, lhs_row, rows_from}

-- a row's coefficients, read from the columns
pub coefficients_from_dense : (columns : List RawColumn) (n i : ℕ) → i < n
    → map (λ numbers. component numbers i) (map (λ c. dense_column n c) columns) ≡ coefficients columns i
coefficients_from_dense [] n i below = refl
coefficients_from_dense (c ∷ cs) n i below =
    rw (
      get_or-map-range_with_len (number_for c.entries) 0 n i i (pos 0) below (omega arith),
      coefficients_from_dense cs n i below,
    ) refl

-- a number that stands with a place is small if all are
pub IsSmall-number_for : (entries : List (ℕ × ℤ)) (k : ℕ) → AllByRecursion (λ e. IsSmall e.1) entries
    → IsSmall (number_for entries k)
IsSmall-number_for [] k h = omega arith
IsSmall-number_for (e ∷ es) k h = small_at (k == e.0) e.1 (number_for es k) h.0 (IsSmall-number_for es k h.1)
  where
    small_at : (b : Bool) (x y : ℤ) → IsSmall x → IsSmall y → IsSmall (cond b x y)
    small_at true x y p q = p
    small_at false x y p q = q

-- a row's coefficients are small
pub IsSmall-coefficients : (columns : List RawColumn) (n i : ℕ) → All (IsColumn n) columns
    → All IsSmall (coefficients columns i)
IsSmall-coefficients [] n i h = All-nil IsSmall
IsSmall-coefficients (c ∷ cs) n i h =
    All-cons IsSmall (number_for c.entries i) (coefficients cs i)
    (IsSmall-number_for c.entries i
    (recursion_from_All (λ e. IsSmall e.1) c.entries (All-head (IsColumn n) c cs h).small))
    (IsSmall-coefficients cs n i (All-tail (IsColumn n) c cs h))

-- the rows of one more row of the text
pub rows_from_step : (columns : List RawColumn) (lower_rows : List ℕ) (i : ℕ) (row : RawRow) (rest rest' : List RawRow)
    (old new whole : List Row) (coef : List ℤ) (lower : Bool) → old ++ rows_from columns lower_rows i rest ≡ whole
    → rest ≡ row ∷ rest' → coef ≡ coefficients columns i → lower ≡ is_among i lower_rows
    → new ≡ old ++ (rhs_row coef lower row.hi ++ lhs_row coef lower row.lo)
    → new ++ rows_from columns lower_rows (i + 1) rest' ≡ whole
rows_from_step columns lower_rows i row rest rest' old new whole coef lower so_far first coef-is lower-is pushed =
    rw (pushed, coef-is, lower-is, append_assoc) (rw first at so_far)

-- the marks at a row
pub mark_at : (places : List ℕ) (n i : ℕ) (marks : List Bool) (d : Bool)
    → marks ≡ map (λ k. is_among k places) (range_with_len 0 n) → i < n → get_or marks i d ≡ is_among i places
mark_at places n i marks d is below =
    rw is (get_or-map-range_with_len (λ k. is_among k places) 0 n i i d below (omega arith))

-- the coefficients that are read from the dense columns are the text's
pub coefficients_read : (columns : List RawColumn) (n i : ℕ) (dense : List (List ℤ)) (coef : List ℤ) → i < n
    → dense ≡ map (λ c. dense_column n c) columns → coef ≡ map (λ numbers. component numbers i) dense
    → coef ≡ coefficients columns i
coefficients_read columns n i dense coef below dense-is coef-is =
    coef-is ∙ ap (map (λ (numbers : List ℤ). component numbers i)) dense-is ∙ coefficients_from_dense columns n i below
