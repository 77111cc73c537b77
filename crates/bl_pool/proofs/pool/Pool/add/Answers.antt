use Rattle.std.proofs.Common.{◌<◌, length, ap, sym, subst, ◌∙◌}
use Rattle.std.specs.Arc.{arc_value}
use Rattle.std.specs.Map.{values_of}
use Rattle.bl_fproof.specs.Entries.{Admitted, IsAdmitted}
use Rattle.bl_pool.specs.Pools.{EntryPool, entry_of_link, with_entry}
use Rattle.bl_pool.proofs.Maps.{pushed, pool-push}
use Rattle.bl_pool.proofs.pool.Pool.add.Goals as goal

pub invariant_of-self-2 : goal.invariant_of-self-2
invariant_of-self-2 c =
    let e = c.args.kept in
    let entries = values_of c.self.inside.entries.entries in
    let pool : EntryPool =
    record { program = arc_value c.self.inside.model; most = c.self.inside.most; entries = entries } in
    let here = c.in_ok-link.ensures.items ∙ c.link.ensures.value ∙ ap (λ (e : Admitted). e.link) c.entry.ensures in
    let none = ap (λ (pool : EntryPool). entry_of_link e.link pool.entries) c.self.view_is ∙ c.requires.absent in
    let put = pushed c.self.inside.entries c.insert.new.self.entries c.in_ok-link.link e c.self.invariant.0 here none
    c.in_ok-insert.ensures.entries in
    let of_program = c.requires.model ∙ ap (λ (pool : EntryPool). pool.program) (sym c.self.view_is) in
    let admitted = subst IsAdmitted c.entry.ensures c.link.ensures.admitted in
    let place = subst (λ (pool : EntryPool). length pool.entries < pool.most) (sym c.self.view_is) c.requires.place in (
      put.by_link,
      rw (put.values)
          (pool-push pool e c.self.invariant.1 (record { program = of_program; admitted = admitted }) none place),
    )

pub returns-clause-added : goal.returns-clause-added
returns-clause-added c =
    let e = c.args.kept in
    let here = c.in_ok-link.ensures.items ∙ c.link.ensures.value ∙ ap (λ (e : Admitted). e.link) c.entry.ensures in
    let none = ap (λ (pool : EntryPool). entry_of_link e.link pool.entries) c.self.view_is ∙ c.requires.absent in
    let put = pushed c.self.inside.entries c.insert.new.self.entries c.in_ok-link.link e c.self.invariant.0 here none
    c.in_ok-insert.ensures.entries in
    rw (put.values) (ap (λ (pool : EntryPool). with_entry pool e) c.self.view_is)
