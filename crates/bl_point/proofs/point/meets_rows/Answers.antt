use Rattle.std.proofs.Common.{◌≡◌, ◌<◌, length, ap, sym, ◌∙◌, subst, arith}
use Rattle.std.specs.Int.{w128}
use Rattle.std.proofs.lemmas.List.{get_or_read}
use Rattle.bl_whole.specs.Within.{PartialDotsFit}
use Rattle.bl_terms.specs.Bounds.{linear_at, no_linear}
use Rattle.bl_limits.specs.declared.TheConstants.{MAX_PROBLEM_COEFFICIENT}
use Rattle.bl_point.proofs.Inside.{inside_dots_fit}
use Rattle.bl_point.proofs.point.meets_rows.Goals as goal

pub dot_product-value-requires-clause-fits : goal.dot_product-value-requires-clause-fits
dot_product-value-requires-clause-fits c =
    let q = c.args.problem.now in
    let f = c.requires.problem_fits in
    let i = c.loop-i.i in
    let within : i < length q.rows = omega (arith, ap length c.rows-rows.ensures.value) in
    let row : c.index-rows-i.result ≡ linear_at q.rows i =
    get_or_read c.rows-rows.result.now i c.index-rows-i.result c.loop-i-test.true c.index-rows-i.is no_linear
    ∙ ap (λ rows. linear_at rows i) c.rows-rows.ensures.value in
    subst (λ xs. PartialDotsFit w128 xs c.args.point.now) (sym (c.coef.ensures ∙ ap (λ r. r.coef) row))
    (inside_dots_fit q (linear_at q.rows i).coef c.args.point.now MAX_PROBLEM_COEFFICIENT f c.requires.inside
    (f.coefs i within) (f.shape.row_columns i within) (omega arith))
