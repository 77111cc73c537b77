use Rattle.std.proofs.Common.{◌∙◌, ap, subst}
use Rattle.bl_pool.specs.Pools.{EntryPool, IsPool, entry_of_link}
use Rattle.bl_pool.proofs.Maps.{lent, looked_up}
use Rattle.bl_pool.proofs.pool.Pool.get.Goals as goal

pub returns-clause-value : goal.returns-clause-value
returns-clause-value c =
    c.get.ensures.value ∙ looked_up c.args.link.now c.self.inside.entries.entries c.self.invariant.0
    ∙ ap (λ (pool : EntryPool). entry_of_link c.args.link.now pool.entries) c.self.view_is

pub returns-clause-entry : goal.returns-clause-entry
returns-clause-entry c =
    lent c.args.self.now c.args.link.now c.get.result (subst IsPool c.self.view_is c.self.invariant.1)
    (returns-clause-value c)
