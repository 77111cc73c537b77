use Rattle.std.proofs.Common.{◌∙◌, ap, sym, length}
use Rattle.std.specs.Prelude.{pos, None, option_map, replicate}
use Rattle.std.specs.Arc.{arc_value}
use Rattle.bl_terms.specs.Points.{zeros}
use Rattle.bl_terms.specs.Programs.{Program, columns}
use Rattle.bl_bound.specs.Plain.{IsBetterPoint}
use Rattle.bl_relax.specs.declared.relaxed.Relaxed.TheVariants as relaxed
use Rattle.bl_follower.proofs.Boxes.{relaxed_over}
use Rattle.bl_leaf_terms.specs.Leaves.{leaf_problem}
use Rattle.bl_tree.specs.Closing.{rows_of}
use Rattle.bl_bound.proofs.PlainLaws.{zeros-replicate}
use Rattle.bl_node.specs.Works.{job_of}
use Rattle.bl_node.specs.Standing.{cutoff_with}
use Rattle.bl_node.proofs.Points.{leaf_point}
use Rattle.bl_node.proofs.cutting.relaxed_with_cuts.Goals as goal

pub leaf_problem-requires-clause-zeros : goal.leaf_problem-requires-clause-zeros
leaf_problem-requires-clause-zeros c =
    c.deref-4.ensures.value ∙ c.in_ok-zeros.ensures.items_if_clones_equal (λ y e. e)
    ∙ ap (λ lo. replicate (length lo) (pos 0)) c.lo.ensures.lo ∙ zeros-replicate (columns c.deref.result.now)
    ∙ ap (λ (p : Program). zeros (columns p)) (c.deref.ensures ∙ sym c.deref-2.ensures)

pub returns-in-Whole : goal.returns-in-Whole
returns-in-Whole c =
    let j = job_of c.args.task.now in
    let q = leaf_problem c.deref-2.result.now c.deref-3.result.now None (rows_of c.in_ok-cuts.cuts) in
    let u = cutoff_with j (option_map arc_value c.args.found.now) in
    let better : IsBetterPoint q u c.in-Whole.point =
    relaxed_over c.in_ok-problem.problem q c.cutoff.result u c.in_ok-proof.field-0 (relaxed.Whole c.in-Whole.point)
    c.in_ok-problem.ensures.value c.cutoff.ensures c.in-Whole.is c.in_ok-proof.ensures in
    leaf_point j (option_map arc_value c.args.found.now) c.deref-2.result.now c.deref-3.result.now
    (rows_of c.in_ok-cuts.cuts) c.in-Whole.point c.deref-2.ensures c.deref-3.ensures better
