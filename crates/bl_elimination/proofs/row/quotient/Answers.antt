use Rattle.std.proofs.Common.{sym, ap}
use Rattle.std.specs.Option.{ok_or}
use Rattle.bl_elimination.proofs.Numbers.{quotient-nought}
use Rattle.bl_elimination.proofs.row.quotient.Goals as goal

pub returns-then-is_zero-clause-value : goal.returns-then-is_zero-clause-value
returns-then-is_zero-clause-value c =
    sym (ap (λ o. ok_or o (record {}))
    (quotient-nought c.args.x c.args.pivot c.is_zero.ensures.lowest_terms c.requires.divisor c.requires.nonzero
    (c.is_zero.ensures.value.0 c.if-is_zero.true)))
