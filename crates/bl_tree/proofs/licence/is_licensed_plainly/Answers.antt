use Rattle.bl_tree.proofs.Licences.{better_licences, free_licences, area_known}
use Rattle.bl_tree.proofs.licence.is_licensed_plainly.Goals as goal

pub returns-in-Better-clause-licence : goal.returns-in-Better-clause-licence
returns-in-Better-clause-licence c =
    better_licences c.args.model.now c.args.area.now c.args.cutoff c.args.why.now c.as_slice-point.result.now
    c.as_slice.result.now c.in-Better.point c.in-Better.response c.in_ok-problem.problem c.is_bettered.result
    c.in_ok-problem.ensures.value c.in-Better.is c.as_slice-point.ensures c.as_slice.ensures c.is_bettered.ensures

pub returns : goal.returns
returns c = record {
  licence =
      free_licences c.args.model.now c.args.area.now c.args.cutoff c.args.why.now c.in_ok-problem.problem
      c.why_holds.result c.in_ok-problem.ensures.value c.in_default.not-Better c.why_holds.ensures;
  area = area_known c.args.area.now c.why_holds.result c.in_ok-problem.ensures.fits.shape.box;
}
