use Rattle.std.proofs.Common.{ap, sym, ◌∙◌, length}
use Rattle.bl_terms.specs.Programs.{columns}
use Rattle.bl_terms.specs.Bounds.{Problem}
use Rattle.bl_bound.proofs.PlainLaws.{length-zeros}
use Rattle.bl_check_leaf.proofs.CitedCuts.{leaf_fits}
use Rattle.bl_check_leaf.proofs.problem.leaf_problem.Goals as goal

pub row-requires : goal.row-requires
row-requires c =
    ap length c.requires.zeros ∙ length-zeros (columns c.args.model.now) ∙ sym c.requires.part.within.columns
    ∙ ap (λ (q : Problem). length q.area.lo) (sym c.in_ok-problem.ensures.value)

pub returns-clause-fits : goal.returns-clause-fits
returns-clause-fits c =
    leaf_fits c.args.model.now c.args.area.now c.args.value c.args.cuts.now c.args.cited.now c.requires.model
    c.plain_problem.ensures.fits c.requires.part.within c.requires.value c.requires.rows c.requires.there c.requires.few
