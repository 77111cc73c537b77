use Rattle.bl_core.proofs.OutcomeLemmas.{cause_answers}
use Rattle.bl_core.proofs.outcome.Outcome.book.Goals as goal

pub returns-clause-answer : goal.returns-clause-answer
returns-clause-answer c =
    rw (← c.self.view_is)
    (cause_answers c.self.inside.book.ledger c.self.inside.end c.limit-run.ensures.kept c.self.invariant)
