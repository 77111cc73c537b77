-- Internal. Earlier cuts that may be used, and what a cut adds up.
use Rattle.std.specs.Prelude.{◌≡◌, ℕ, ◌<◌, ◌^◌, List, length}
use Rattle.bl_terms.specs.Points.{Area, IsWithinArea, Linear}
use Rattle.bl_terms.specs.Programs.{Program}
use Rattle.bl_cut_terms.specs.declared.parts.Tight.{Tight}
use Rattle.bl_cut_terms.specs.NoGoods.{LocalRow, local_row_at, cut_row, tight_rows}
use Rattle.bl_check_terms.specs.Rules.{IsSized}

-- there is an earlier cut at the place, and its box contains this one
abbrev pub IsUsable : Area → List LocalRow → ℕ → Type 0
IsUsable a earlier k = (k < length earlier) × IsWithinArea a (local_row_at earlier k).area

-- the box of a cut's local row stays, and the row is this one
abbrev pub with_row : Linear → LocalRow → LocalRow
with_row row cut = record { area = cut.area; row = row }

-- the cut may use what its items name; these are the rows that they stand for, and what they add up to
pub record AddsUp (p : Program) (a : Area) (earlier : List LocalRow) (tight : List Tight) (rows : List Linear)
    (row : Linear) : Type 0 where
  pub rows_are : rows ≡ tight_rows p a earlier tight
  pub few : length rows < 2 ^ 32
  pub row_is : row ≡ cut_row p a earlier tight
  pub sized : IsSized p a earlier tight
