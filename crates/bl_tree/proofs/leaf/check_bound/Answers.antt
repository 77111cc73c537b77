use Rattle.std.proofs.Common.{sym, ◌∙◌}
use Rattle.bl_tree.proofs.Leaves.{lacks_value}
use Rattle.bl_tree.proofs.leaf.check_bound.Goals as goal

pub returns-then-is_none-clause-err : goal.returns-then-is_none-clause-err
returns-then-is_none-clause-err c =
    lacks_value c.args.value_row (λ x. x.now) c.args.model.now c.args.area.now c.value_at-value.result _
    c.value_at-value.ensures.admitted c.requires.link (sym c.is_some.ensures ∙ c.if-is_some.true) c.if-is_none.ensures
    c.value_at-value.ensures.value
