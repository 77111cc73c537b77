use Rattle.std.proofs.Common.{sym, ap}
use Rattle.std.specs.Option.{ok_or}
use Rattle.bl_tableau.proofs.Places.{share_at_zero}
use Rattle.bl_tableau.proofs.place.scaled.Goals as goal

pub returns-then-is_zero-clause-value : goal.returns-then-is_zero-clause-value
returns-then-is_zero-clause-value c =
    sym (ap (λ o. ok_or o (record {}))
    (share_at_zero c.args.x c.args.pivot c.args.own c.if-own.false c.requires.number
    (c.is_zero.ensures.0 c.if-is_zero.true) c.requires.divisor c.requires.nonzero))
