use Rattle.std.proofs.Common.{◌∙◌}
use Rattle.bl_node.specs.Works.{job_of}
use Rattle.bl_node.proofs.Closings.{no_answer}
use Rattle.bl_node.proofs.nodes.work_fixed.Goals as goal

pub closed_without_answer-requires-clause-none : goal.closed_without_answer-requires-clause-none
closed_without_answer-requires-clause-none g c =
    let j = job_of c.args.task.now in
    no_answer j.program c.deref-2.result.now j.area c.deref-3.result.now c.deref.result.now c.in_ok-kept.kept
    c.requires.fixes (c.deref.ensures.value ∙ c.in_ok-link.ensures.value) c.in_ok-kept.ensures.entry c.deref-2.ensures
    c.deref-3.ensures c.in_default.ensures.value
