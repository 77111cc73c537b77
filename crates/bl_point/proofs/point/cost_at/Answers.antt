use Rattle.std.proofs.Common.{sym, subst, arith}
use Rattle.std.specs.Int.{w128}
use Rattle.bl_whole.specs.Within.{PartialDotsFit}
use Rattle.bl_point.proofs.Inside.{inside_dots_fit}
use Rattle.bl_point.proofs.point.cost_at.Goals as goal

pub dot_product-requires-clause-fits : goal.dot_product-requires-clause-fits
dot_product-requires-clause-fits c =
    let q = c.args.problem.now in
    let f = c.requires.problem_fits in
    subst (λ xs. PartialDotsFit w128 xs c.args.point.now) (sym c.cost.ensures.value)
    (inside_dots_fit q q.cost c.args.point.now 10000000 f c.requires.inside f.costs f.shape.cost_columns
    (omega arith))
