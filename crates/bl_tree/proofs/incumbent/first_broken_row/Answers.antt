use Rattle.std.proofs.Common.{◌≡◌, ◌<◌, length, ap, sym, ◌∙◌, subst, arith, List, ℤ}
use Rattle.std.specs.Int.{w128}
use Rattle.std.proofs.lemmas.List.{get_or_read}
use Rattle.bl_whole.specs.Within.{PartialDotsFit}
use Rattle.bl_terms.specs.Programs.{Row, row_at, no_row}
use Rattle.bl_tree.proofs.Incumbents.{row_sum_fits}
use Rattle.bl_tree.proofs.incumbent.first_broken_row.Goals as goal

pub dot_product-requires-clause-fits : goal.dot_product-requires-clause-fits
dot_product-requires-clause-fits c =
    let p = c.args.model.now in
    let i = c.loop-i.i in
    let within : i < length p.rows = omega (arith, ap length c.rows-rows.ensures.rows) in
    let row : c.index-rows-i.result ≡ row_at p.rows i =
    get_or_read c.rows-rows.result.now i c.index-rows-i.result c.loop-i-test.true c.index-rows-i.is no_row
    ∙ ap (λ rows. row_at rows i) c.rows-rows.ensures.rows in
    let coef = c.deref.ensures.value ∙ ap (λ (r : Row). r.coef) (c.row.view_is ∙ row) in
    subst (λ (xs : List ℤ). PartialDotsFit w128 xs c.args.point.now) (sym coef)
    (row_sum_fits p c.args.point.now i c.rows-rows.ensures.model c.requires within)
