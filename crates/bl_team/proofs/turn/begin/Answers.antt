use Rattle.bl_team.proofs.Turns.{job_of_task}
use Rattle.bl_team.proofs.turn.begin.Goals as goal

pub returns-in-Ok : goal.returns-in-Ok
returns-in-Ok c = record {
  begun = c.in_ok-claim.ensures;
  task = c.in-Ok.ensures.ok;
  job =
      job_of_task c.claim.new.book.ledger c.args.node c.in-Ok.task c.limit-kept.ensures.kept c.in-Ok.ensures.ok;
}
