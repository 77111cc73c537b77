use Rattle.std.specs.Arc.{arc_value}
use Rattle.bl_nogood.proofs.KeptLemmas.{made_cut, large_row}
use Rattle.bl_nogood.proofs.Taken.{cut_at_point}
use Rattle.bl_nogood.proofs.make.make_cut.Goals as goal

pub returns-in-Ok-Some-clause-made : goal.returns-in-Ok-Some-clause-made
returns-in-Ok-Some-clause-made c =
    made_cut (arc_value c.args.model) c.deref.result.now (arc_value c.args.area) c.deref-2.result.now c.args.earlier
    c.args.point.now c.args.response.now c.in_ok-parts.parts c.in_ok-parts.count c.in-Ok-Some.cut c.deref.ensures
    c.deref-2.ensures c.in_ok-parts.ensures.ok (rw c.in-Ok-Some.field-0-is at c.in-Ok-Some.ensures.cut)
    (rw c.in-Ok-Some.field-0-is at c.in-Ok-Some.ensures.own)

pub returns-in-Ok-None-clause-err : goal.returns-in-Ok-None-clause-err
returns-in-Ok-None-clause-err c =
    large_row (arc_value c.args.model) c.deref.result.now (arc_value c.args.area) c.deref-2.result.now c.args.earlier
    c.args.point.now c.args.response.now c.in_ok-parts.parts c.in_ok-parts.count c.deref.ensures c.deref-2.ensures
    c.in_ok-parts.ensures.ok (rw c.in-Ok-None.field-0-is at c.in-Ok-None.ensures.cut)

pub returns-in-Ok-Some-clause-at : goal.returns-in-Ok-Some-clause-at
returns-in-Ok-Some-clause-at c =
    cut_at_point (arc_value c.args.model) c.deref.result.now (arc_value c.args.area) c.deref-2.result.now c.args.earlier
    c.args.point.now c.args.response.now c.in_ok-parts.parts c.in_ok-parts.count c.in-Ok-Some.cut
    c.in_ok-parts.ensures.ok (rw c.in-Ok-Some.field-0-is at c.in-Ok-Some.ensures.cut)
    (rw c.in-Ok-Some.field-0-is at c.in-Ok-Some.ensures.own)
    (rw c.in-Ok-Some.field-0-is at c.in-Ok-Some.ensures.proved)
