use Rattle.bl_check.proofs.StatedLines.{cut_count_line, follower_inside}
use Rattle.bl_check.proofs.checker.Checker.cut_count.Goals as goal

pub has_follower-requires : goal.has_follower-requires
has_follower-requires c = record {
  inside = follower_inside c.args.model.now c.args.self.now c.requires.asked.0 c.lo-columns.ensures.model
      c.requires.asked.1;
}

pub returns : goal.returns
returns c = λ count.
    cut_count_line c.args.model.now c.args.self.now count c.in_ok-kept.kept c.unless.result c.unless.ensures
    c.in_ok-kept.ensures
