use Rattle.std.proofs.Common.{ap, length, arith, ◌∙◌}
use Rattle.std.proofs.Math.Facts.{to_z-of_z}
use Rattle.std.proofs.lemmas.List.Elements.{All-push}
use Rattle.std.proofs.lemmas.List.FromFn.{length-map-range_with_len}
use Rattle.bl_raw.specs.Raw.{IsColumn}
use Rattle.bl_mps_read.specs.ColumnViews.{columns_view}
use Rattle.bl_mps_model.specs.Model.{column_at}
use Rattle.bl_mps_model.proofs.Found.{column_found, faultless_there, same_there}
use Rattle.bl_mps_model.proofs.Tables.{table_more}
use Rattle.bl_mps_model.proofs.model.raw_columns.Goals as goal

pub loop-place-preserved : goal.loop-place-preserved
loop-place-preserved c = record {
  exact = rw (to_z-of_z c.ranges.default)
      (table_more (column_at c.args.default c.args.rows (columns_view c.args.columns.now)) c.loop-place.place _ _ _
      (rw (to_z-of_z c.ranges.default) at c.loop-place.invariant.exact)
      (rw (to_z-of_z c.ranges.default) at c.in_ok-column.ensures.exact
      ∙ column_found c.args.default c.args.rows
      (columns_view c.args.columns.now) c.loop-place.place c.at-name.result.now c.as_slice-numbers.result.now
      c.index-bounds.result.now c.at-name.ensures (omega arith)
      (same_there c.args.columns.now.numbers.items c.loop-place.place _ _ c.as_slice-numbers.ensures
      c.index-coefficients.ensures) (omega arith) c.index-bounds.ensures) c.in_ok-push.ensures.items);
  limits = rw (c.in_ok-push.ensures.items)
      (All-push (IsColumn c.args.rows) _ _ c.loop-place.invariant.limits c.in_ok-column.ensures.limits);
}

pub returns-clause-count : goal.returns-clause-count
returns-clause-count c =
    omega (
      arith,
      ap length c.new.ensures,
      ap length (rw (to_z-of_z c.ranges.default) at c.loop-place.invariant.exact),
      length-map-range_with_len
          (column_at c.args.default c.args.rows (columns_view c.args.columns.now)) 0 c.loop-place.place,
    )

pub raw_column-requires-clause-faultless : goal.raw_column-requires-clause-faultless
raw_column-requires-clause-faultless c =
    rw (to_z-of_z c.ranges.default)
    (faultless_there c.args.default c.args.columns.now.bounds.items c.loop-place.place c.index-bounds.result.now
    (omega arith) c.index-bounds.ensures c.requires.faultless)
