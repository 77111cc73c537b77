use Rattle.std.proofs.Common.{ap, sym, ◌∙◌, length}
use Rattle.bl_terms.specs.Programs.{columns}
use Rattle.bl_terms.specs.Bounds.{Problem}
use Rattle.bl_bound.proofs.PlainLaws.{length-zeros}
use Rattle.bl_tree.proofs.Problems.{leaf_fits}
use Rattle.bl_tree.proofs.problem.leaf_problem.Goals as goal

pub row-requires-in-None : goal.row-requires-in-None
row-requires-in-None c =
    ap length c.requires.zeros ∙ length-zeros (columns c.args.model.now) ∙ sym c.requires.within.columns
    ∙ ap length (sym c.lo.ensures.value) ∙ ap (λ (q : Problem). length q.area.lo) (sym c.start-problem.ensures)
    ∙ ap (λ (q : Problem). length q.area.lo) (sym c.in_ok-add_rows.ensures)

pub returns-clause-fits : goal.returns-clause-fits
returns-clause-fits c =
    leaf_fits c.args.model.now c.args.area.now c.args.value c.args.cuts.now c.cost.ensures.model c.lo.ensures.limits
    c.requires.within c.requires.value c.requires.cuts c.in_ok-add_cuts.ensures.proved c.add_cuts.ensures.few
