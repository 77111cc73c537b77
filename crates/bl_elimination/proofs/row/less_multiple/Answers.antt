use Rattle.std.proofs.Common.{sym, ap}
use Rattle.std.specs.Option.{ok_or}
use Rattle.bl_elimination.proofs.Numbers.{less_multiple-nought}
use Rattle.bl_elimination.proofs.row.less_multiple.Goals as goal

pub returns-then-is_zero-clause-value : goal.returns-then-is_zero-clause-value
returns-then-is_zero-clause-value c =
    sym (ap (λ o. ok_or o (record {}))
    (less_multiple-nought c.args.x c.args.factor c.args.y c.requires.number c.requires.factor_reduced
    c.is_zero.ensures.lowest_terms (c.is_zero.ensures.value.0 c.if-is_zero.true)))
