-- The sizes of a model's points and rows.
use Rattle.std.proofs.Common.{◌<◌, ◌≤◌, length, arith, sym, ◌∙◌}
use Rattle.std.specs.Prelude.{ℤ, List}
use Rattle.std.proofs.lemmas.Int.{ints}
use Rattle.bl_limits.specs.declared.TheConstants.{MAX_COLUMNS, MAX_NUMBER}
use Rattle.bl_whole.specs.Sums.{component}
use Rattle.bl_whole.specs.Within.{AreWithin}
use Rattle.bl_whole.proofs.WithinLemmas.{within_low, within_high, within_from_bounds}
use Rattle.bl_terms.specs.Programs.{Program, InBox, columns}
use Rattle.bl_model.specs.View.{IsModel}
use Rattle.bl_model.specs.Points.{AreShort}

-- a point of the box has small numbers
pub InBox-within : (p : Program) (z : List ℤ) → IsModel p → InBox p z → AreWithin MAX_NUMBER z
InBox-within p z m is = record {
  each = λ k below.
      let at : k < columns p = omega (arith, below, is.columns) in
      let low = within_low (m.limits.lower_bounds k) in
      let high = within_high (m.limits.upper_bounds k) in
      let least = is.least k at in
      let most = is.most k at in
      within_from_bounds MAX_NUMBER (component z k) (omega (arith, ints)) (omega (arith, ints));
}

-- and there are few of them
pub InBox-few : (p : Program) (z : List ℤ) → IsModel p → InBox p z → length z ≤ MAX_COLUMNS
InBox-few p z m is = omega (arith, is.columns, m.limits.few_columns)

-- the rows fit the point
pub rows-short : (p : Program) (z : List ℤ) → IsModel p → InBox p z → AreShort (length z) p.rows
rows-short p z m is = record {
  each = λ i below. record {
    count = m.sound.row_columns i below ∙ sym is.columns;
    coef = record { each = λ k _. m.limits.coefs i k below };
  };
}
