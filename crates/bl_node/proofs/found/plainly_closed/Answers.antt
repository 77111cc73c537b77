use Rattle.std.proofs.Common.{refl, ap, ◌∙◌}
use Rattle.std.specs.Prelude.{option_map}
use Rattle.std.specs.Arc.{arc_value}
use Rattle.bl_terms.specs.Points.{Area}
use Rattle.bl_terms.specs.Programs.{Program}
use Rattle.bl_leaf_terms.specs.Nodes.{plain_problem}
use Rattle.bl_follower.proofs.Boxes.{plain_over}
use Rattle.bl_node.specs.Works.{job_of}
use Rattle.bl_node.specs.Standing.{cutoff_with}
use Rattle.bl_node.proofs.found.plainly_closed.Goals as goal

pub returns-clause-plain : goal.returns-clause-plain
returns-clause-plain c =
    let j = job_of c.args.task.now in
    let same = c.in_ok-problem.ensures.value
    ∙ ap (λ (p : Program). plain_problem p c.deref-2.result.now c.args.value) c.deref.ensures
    ∙ ap (λ (a : Area). plain_problem (arc_value c.args.task.now.model) a c.args.value) c.deref-2.ensures in
    plain_over c.in_ok-problem.problem (plain_problem j.program j.area c.args.value) c.cutoff.result
    (cutoff_with j (option_map arc_value c.args.found.now)) c.in_ok-proof.proof c.in_ok-proof.proof same
    c.cutoff.ensures refl c.in_ok-proof.ensures.plain
