use Rattle.std.proofs.Common.{ap}
use Rattle.std.specs.Arc.{arc_value}
use Rattle.bl_node.specs.declared.cuts.NodeCuts.{NodeCuts}
use Rattle.bl_node.specs.Works.{job_of}
use Rattle.bl_node.proofs.MadeCuts.{cuts_more, attempt_made, attempt_unmade, cut_of_job, too_large}
use Rattle.bl_node.proofs.cuts.make_at.Goals as goal

pub returns-in_ok-add-in-Ok-clause-cuts : goal.returns-in_ok-add-in-Ok-clause-cuts
returns-in_ok-add-in-Ok-clause-cuts c =
    let j = job_of c.args.task.now in
    cuts_more j c.args.cuts.now.all c.args.cuts.now.made c.add.new.self.all c.add.new.self.made c.in-Ok.cut
    c.args.point.now c.args.response.now c.requires.cuts
    (cut_of_job j.program (arc_value c.in_ok-model.model) j.area (arc_value c.in_ok-area.area) c.args.point.now
    c.args.response.now c.in-Ok.cut c.in_ok-model.ensures.cases c.in_ok-area.ensures.cases c.in-Ok.ensures.at)
    c.requires.node c.requires.room c.requires.fresh
    (ap (λ (x : NodeCuts). x.all) c.in_ok-add-in-Ok.ensures) (ap (λ (x : NodeCuts). x.made) c.in_ok-add-in-Ok.ensures)

pub returns-in_ok-add-in-Ok-clause-attempt : goal.returns-in_ok-add-in-Ok-clause-attempt
returns-in_ok-add-in-Ok-clause-attempt c =
    let j = job_of c.args.task.now in
    attempt_made j c.args.cuts.now.made c.add.new.self.made c.in-Ok.cut c.args.point.now c.args.response.now
    (cut_of_job j.program (arc_value c.in_ok-model.model) j.area (arc_value c.in_ok-area.area) c.args.point.now
    c.args.response.now c.in-Ok.cut c.in_ok-model.ensures.cases c.in_ok-area.ensures.cases c.in-Ok.ensures.at)
    c.requires.room (ap (λ (x : NodeCuts). x.made) c.in_ok-add-in-Ok.ensures)

pub returns-in-Err-TooLarge-clause-attempt : goal.returns-in-Err-TooLarge-clause-attempt
returns-in-Err-TooLarge-clause-attempt c =
    let j = job_of c.args.task.now in
    attempt_unmade j c.args.cuts.now.all c.args.cuts.now.made c.in_ok-copy.field-0 c.args.point.now c.requires.cuts
    c.in_ok-copy.ensures
    (too_large j.program (arc_value c.in_ok-model.model) j.area (arc_value c.in_ok-area.area) c.in_ok-copy.field-0
    c.args.point.now c.args.response.now c.in-Err-TooLarge.field-0-0 c.in_ok-model.ensures.cases
    c.in_ok-area.ensures.cases (rw c.in-Err-TooLarge.field-0-is at c.in-Err-TooLarge.ensures.err))
