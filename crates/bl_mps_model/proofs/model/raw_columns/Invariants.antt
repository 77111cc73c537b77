use Rattle.std.proofs.Common.{◌≡◌, map}
use Rattle.std.specs.List.{All, range_with_len}
use Rattle.bl_raw.specs.Raw.{IsColumn}
use Rattle.bl_mps_read.specs.ColumnViews.{columns_view}
use Rattle.bl_mps_model.specs.Model.{column_at}
use Rattle.bl_mps_model.proofs.model.raw_columns.Given as goal

abbrev pub invariant-loop-place : goal.invariant-loop-place
invariant-loop-place l = record {
  exact : l.raw.items ≡ map (column_at l.default l.rows (columns_view l.columns)) (range_with_len 0 l.place);
  limits : All (IsColumn l.rows) l.raw.items;
}
