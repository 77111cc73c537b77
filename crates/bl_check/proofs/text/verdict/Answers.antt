use Rattle.bl_check.proofs.text.verdict.Goals as goal

pub walk-requires : goal.walk-requires
walk-requires c = c.new-checker.ensures c.args.model.now
