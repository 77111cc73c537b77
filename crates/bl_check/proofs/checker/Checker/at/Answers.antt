use Rattle.std.proofs.Common.{subst}
use Rattle.bl_check.proofs.CutLines.{PlaceTest, at_line, at_ready}
use Rattle.bl_check.proofs.checker.Checker.at.Goals as goal

pub point-requires-clause-some : goal.point-requires-clause-some
point-requires-clause-some c =
    (at_ready c.args.model.now c.args.self.now c.args.values c.lo-columns.ensures.model c.requires.asked).some

pub point-requires-clause-summed : goal.point-requires-clause-summed
point-requires-clause-summed c =
    (at_ready c.args.model.now c.args.self.now c.args.values c.lo-columns.ensures.model c.requires.asked).summed

pub returns : goal.returns
returns c =
    let p = c.args.model.now in
    let old = c.args.self.now in
    let kept = c.in_ok-kept.kept in
    at_line p old c.point.new.held c.args.values kept c.unless.result c.unless.ensures
    (subst (PlaceTest p old.said.cuts c.point.new.held kept) c.as_slice.ensures c.in_ok-kept.ensures)
