use Rattle.bl_check.proofs.StatedLines.{point_line}
use Rattle.bl_check.proofs.checker.Checker.point.Goals as goal

pub returns : goal.returns
returns c =
    point_line c.args.model.now c.args.self.now c.state_point-kept.new.statement c.args.values c.state_point-kept.result
    c.unless.result c.unless.ensures (c.state_point-kept.ensures.kept, c.state_point-kept.ensures.taken)
