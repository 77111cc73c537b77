-- Trusted. Boxes within the limits of a model, and a box with its two halves.
use Rattle.std.specs.Prelude.{ℕ, ℤ, ◌≤◌, length, refl}
use Rattle.std.specs.Coded.{Coded, code_by, coded×, coded_ℤ, coded_ℕ}
use Rattle.bl_limits.specs.declared.TheConstants.{MAX_COLUMNS, MAX_NUMBER}
use Rattle.bl_whole.specs.Within.{AreWithin}
use Rattle.bl_terms.specs.Points.{Area, area_code, IsArea}
use Rattle.bl_terms.specs.Trees.{CanSplit, low_half, high_half}

-- a box within the limits of a model: no range is empty, few enough columns, and small numbers
pub record IsBox (a : Area) : Type 0 where
  pub area : IsArea a
  pub few : length a.lo ≤ MAX_COLUMNS
  pub lower_bounds : AreWithin MAX_NUMBER a.lo
  pub upper_bounds : AreWithin MAX_NUMBER a.hi

-- a box, split at a place of a column
pub record Halved : Type 0 where
  pub area : Area
  pub column : ℕ
  pub at : ℤ

abbrev pub halved_code : Coded Halved
halved_code =
    code_by (Area × (ℕ × ℤ)) (coded× area_code (coded× coded_ℕ coded_ℤ)) (λ h. (h.area, (h.column, h.at)))
    (λ p. record { area = p.0; column = p.1.0; at = p.1.1 }) (λ _. refl)

-- the place splits the box, and both halves are within the limits too
pub record IsHalved (h : Halved) : Type 0 where
  pub split : CanSplit h.area h.column h.at
  pub area : IsBox h.area
  pub low : IsBox (low_half h.area h.column h.at)
  pub high : IsBox (high_half h.area h.column h.at)
