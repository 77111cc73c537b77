use Rattle.std.proofs.Common.{◌<◌, ◌^◌, length, subst, sym}
use Rattle.bl_terms.specs.Bounds.{Problem}
use Rattle.bl_nogood.proofs.KeptLemmas.{problem_of_rows, few_costs}
use Rattle.bl_nogood.proofs.kept.basis_of.Goals as goal

pub eliminate-requires-clause-shape : goal.eliminate-requires-clause-shape
eliminate-requires-clause-shape c =
    problem_of_rows c.args.model.now c.args.area.now c.args.rows.now c.in_ok-problem.problem c.lo-columns.ensures.model
    c.lo-sides.ensures.limits c.requires.within c.requires.rows c.in_ok-problem.ensures

pub eliminate-requires-clause-few_columns : goal.eliminate-requires-clause-few_columns
eliminate-requires-clause-few_columns c =
    few_costs c.args.model.now c.args.area.now c.args.rows.now c.in_ok-problem.problem c.lo-columns.ensures.model
    c.lo-sides.ensures.limits c.requires.within c.in_ok-problem.ensures

pub eliminate-requires-clause-few_rows : goal.eliminate-requires-clause-few_rows
eliminate-requires-clause-few_rows c =
    subst (λ (q : Problem). length q.rows < 2 ^ 32) (sym c.in_ok-problem.ensures) c.requires.few
