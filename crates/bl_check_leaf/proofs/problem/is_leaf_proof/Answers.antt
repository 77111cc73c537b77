use Rattle.std.proofs.Common.{pos, ap, ◌∙◌, length}
use Rattle.std.proofs.Math.ListN.{replicate}
use Rattle.bl_bound.proofs.PlainLaws.{zeros-replicate}
use Rattle.bl_terms.specs.Programs.{columns}
use Rattle.bl_check_leaf.proofs.problem.is_leaf_proof.Goals as goal

pub leaf_problem-requires-clause-zeros : goal.leaf_problem-requires-clause-zeros
leaf_problem-requires-clause-zeros c =
    c.deref.ensures.value ∙ c.in_ok-zeros.ensures.items_if_clones_equal (λ y e. e)
    ∙ ap (λ lo. replicate (length lo) (pos 0)) c.lo.ensures.lo ∙ zeros-replicate (columns c.args.model.now)
