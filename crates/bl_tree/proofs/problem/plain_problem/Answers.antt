use Rattle.bl_tree.proofs.Problems.{plain_fits}
use Rattle.bl_tree.proofs.problem.plain_problem.Goals as goal

pub returns-in_err-add_rows-clause-fits : goal.returns-in_err-add_rows-clause-fits
returns-in_err-add_rows-clause-fits c =
    plain_fits c.args.model.now c.args.area.now c.args.value c.cost.ensures.model c.lo.ensures.limits
    c.requires.within c.requires.value

pub returns-in_err-row-clause-fits : goal.returns-in_err-row-clause-fits
returns-in_err-row-clause-fits c =
    plain_fits c.args.model.now c.args.area.now c.args.value c.cost.ensures.model c.lo.ensures.limits
    c.requires.within c.requires.value

pub returns-clause-fits : goal.returns-clause-fits
returns-clause-fits c =
    plain_fits c.args.model.now c.args.area.now c.args.value c.cost.ensures.model c.lo.ensures.limits
    c.requires.within c.requires.value
