use Rattle.std.proofs.Common.{List, subst}
use Rattle.std.specs.Prelude.{ℤ, ◌↔◌, IsTrue}
use Rattle.bl_cut_terms.specs.NoGoods.{HasBetterResponse}
use Rattle.bl_check.proofs.CutLines.{response_inside, response_line}
use Rattle.bl_check.proofs.checker.Checker.response.Goals as goal

pub response-requires : goal.response-requires
response-requires c = record {
  inside = response_inside c.args.model.now c.args.self.now c.args.values c.lo-columns.ensures.model c.requires.asked;
}

pub returns : goal.returns
returns c =
    let p = c.args.model.now in
    let old = c.args.self.now in
    let kept = c.in_ok-kept.kept in
    response_line p old c.args.values kept c.unless.result c.unless.ensures
    (subst (λ (y : List ℤ). IsTrue kept ↔ HasBetterResponse p old.said.cuts.point.items y) c.as_slice.ensures
    c.in_ok-kept.ensures)
