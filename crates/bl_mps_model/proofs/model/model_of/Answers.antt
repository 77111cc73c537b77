use Rattle.std.proofs.Common.{◌≡◌, sym, ap, ◌∙◌, ℕ, List, length, Option, ℤ, arith}
use Rattle.std.proofs.Math.Facts.{to_z-of_z}
use Rattle.bl_mps_read.specs.ReaderViews.{reader_view}
use Rattle.bl_mps_read.specs.ColumnViews.{columns_view}
use Rattle.bl_mps_read.specs.RowViews.{rows_view}
use Rattle.bl_mps_model.specs.Model.{raw_rows, raw_columns}
use Rattle.bl_mps_model.specs.Whole.{bounds_faults}
use Rattle.bl_mps_model.proofs.Found.{model_found, faultless_columns}
use Rattle.bl_mps_model.proofs.model.model_of.Goals as goal

pub raw_columns-requires-clause-faultless : goal.raw_columns-requires-clause-faultless
raw_columns-requires-clause-faultless c =
    faultless_columns c.args.default _ c.args.reader.now.columns.bounds.items (to_z-of_z c.ranges.default)
    (c.in_default-bounds_faults.ensures ∙ ap (bounds_faults _ 0) c.as_slice-bounds.ensures.value)

pub returns-clause-exact : goal.returns-clause-exact
returns-clause-exact c =
    let counted : c.len-count.result ≡ length c.args.reader.now.rows.bounded.items = omega arith in
    model_found c.args.default (reader_view c.args.reader.now) c.in-Some.place _ _ _ _ _ c.in-Some.is
    (sym (rw (to_z-of_z c.ranges.default) at
    (c.in_default-bounds_faults.ensures ∙ ap (bounds_faults _ 0) c.as_slice-bounds.ensures.value)))
    c.unwrap_or.ensures c.at-name.ensures c.in_ok-objective.ensures
    (c.in_ok-rows.ensures.exact
    ∙ ap (λ (xs : List (Option ℤ)). raw_rows (rows_view c.args.reader.now.rows) xs c.as_slice-ranges.result.now)
    c.as_slice-right_sides.ensures
    ∙ ap (λ (xs : List (Option ℤ)). raw_rows (rows_view c.args.reader.now.rows) c.args.reader.now.right_sides xs)
    c.as_slice-ranges.ensures)
    (rw (to_z-of_z c.ranges.default) at c.in_ok-columns.ensures.exact
    ∙ ap (λ (n : ℕ). raw_columns c.args.default n (columns_view c.args.reader.now.columns)) counted)
