use Rattle.std.proofs.Common.{◌∙◌, ap}
use Rattle.std.specs.Option.{ok_or}
use Rattle.bl_simplex.specs.Fractions.{difference_of, sum_of}
use Rattle.bl_frac.proofs.arithmetic.sub.Goals as goal

pub returns : goal.returns
unfolding difference_of
returns c = c.add.ensures ∙ ap (λ f. ok_or (sum_of c.args.a f) (record {})) c.negation.ensures
