use Rattle.std.proofs.Common.{length, ap, ◌∙◌}
use Rattle.bl_elimination.proofs.RowLists.{candidate_size}
use Rattle.bl_elimination.proofs.row.Row.candidate.Goals as goal

pub returns-clause-size : goal.returns-clause-size
returns-clause-size c = ap length c.in_ok-numbers.ensures.value ∙ candidate_size c.args.slot c.args.coef.now
