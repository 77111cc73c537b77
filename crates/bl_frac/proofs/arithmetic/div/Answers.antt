use Rattle.std.proofs.Common.{◌∙◌, ap}
use Rattle.std.specs.Option.{ok_or}
use Rattle.bl_simplex.specs.Fractions.{quotient_of, product_of}
use Rattle.bl_frac.proofs.arithmetic.div.Goals as goal

pub returns : goal.returns
unfolding quotient_of
returns c = c.mul.ensures ∙ ap (λ f. ok_or (product_of c.args.a f) (record {})) c.reciprocal_of.ensures
