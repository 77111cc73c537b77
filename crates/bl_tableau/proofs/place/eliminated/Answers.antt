use Rattle.std.proofs.Common.{sym, ap}
use Rattle.std.specs.Option.{ok_or}
use Rattle.bl_tableau.proofs.Places.{remainder_at_zero}
use Rattle.bl_tableau.proofs.place.eliminated.Goals as goal

pub returns-then-is_zero-clause-value : goal.returns-then-is_zero-clause-value
returns-then-is_zero-clause-value c =
    sym (ap (λ o. ok_or o (record {}))
    (remainder_at_zero c.args.factor c.args.x c.args.scaled c.args.own c.if-own.false c.requires.factor_reduced
    c.requires.number c.requires.scaled_reduced (c.is_zero.ensures.0 c.if-is_zero.true)))
