use Rattle.std.proofs.Common.{◌≡◌, ◌∙◌, ap, ℤ, pos, Option, FitsSigned}
use Rattle.std.specs.Prelude.{unwrap_or}
use Rattle.std.specs.Int.{w64}
use Rattle.std.proofs.Math.Facts.{to_z-of_z}
use Rattle.bl_mps_model.specs.Whole.{upper_in}
use Rattle.bl_mps_model.proofs.Columns.{is_column}
use Rattle.bl_mps_model.proofs.model.raw_column.Goals as goal

pub returns-clause-limits : goal.returns-clause-limits
returns-clause-limits c =
    let lo_fits : FitsSigned w64 c.unwrap_or-lo.result = record { sfits = c.unwrap_or-lo.type_inv } in
    let hi_fits : FitsSigned w64 c.unwrap_or-hi.result = record { sfits = c.unwrap_or-hi.type_inv } in
    let cost_fits : FitsSigned w64 c.number_at-cost.result = record { sfits = c.number_at-cost.type_inv } in
    let upper : c.upper_in.result ≡ upper_in c.args.default c.args.bounds =
    rw (to_z-of_z c.ranges.default) at c.upper_in.ensures in
    is_column c.args.rows _ c.args.default c.args.bounds
    (to_z-of_z lo_fits ∙ c.unwrap_or-lo.ensures)
    (to_z-of_z hi_fits ∙ c.unwrap_or-hi.ensures ∙ ap (λ (o : Option ℤ). unwrap_or o (pos 0)) upper)
    (rw (to_z-of_z cost_fits) (c.number_at-cost.ensures.small c.requires.small))
    (rw c.new-entries.ensures c.in_ok-raw_entries.ensures.limits) c.requires.small_bounds c.requires.small_default
    c.requires.faultless
