use Rattle.std.proofs.Common.{ℕ, refl, ap}
use Rattle.bl_words.specs.declared.commands.Command.TheVariants.{Solve}
use Rattle.bl_words.specs.Items.{Said}
use Rattle.bl_run.specs.Endings.{NodesSpent}
use Rattle.bl_run.specs.Steps.{asked_by}
use Rattle.bl_run.proofs.OutcomeLemmas.{reports, spends, fails}
use Rattle.bl_run.proofs.solve.told_of.Goals as goal

pub returns-in-Nodes-clause-failed : goal.returns-in-Nodes-clause-failed
returns-in-Nodes-clause-failed c =
    let budget = ap (λ (said : Said). said.nodes) c.words.view_is in
    rw budget
    (spends (asked_by Solve c.args.words.now) c.args.outcome.now c.book-book.result.now c.end.result.now
    c.requires.found c.book-book.ensures.value c.limit-limit.ensures.kept c.book-book.ensures.cause
    c.book-book.ensures.answer c.end.ensures.value (NodesSpent c.args.words.now.nodes c.made.result)
    (rw c.in-Nodes.is tt) (rw (c.in-Nodes.is, c.made.ensures.value) refl))

pub returns-in_ok-cert-in-Done-clause-report : goal.returns-in_ok-cert-in-Done-clause-report
returns-in_ok-cert-in-Done-clause-report c =
    reports (asked_by Solve c.args.words.now) c.args.outcome.now c.book-book.result.now c.end.result.now
    c.requires.found c.book-book.ensures.value c.limit-limit.ensures.kept c.book-book.ensures.cause
    c.book-book.ensures.answer c.end.ensures.value c.args.columns.now c.in_ok-report-in-Done.report.answer
    c.in_ok-report-in-Done.report.text.items c.in_ok-cert-in-Done.cert.items c.in-Done.is
    c.in_ok-report-in-Done.ensures c.in_ok-cert-in-Done.ensures

pub returns-in_ok-follower_spent-in-Follower-clause-failed : goal.returns-in_ok-follower_spent-in-Follower-clause-failed
returns-in_ok-follower_spent-in-Follower-clause-failed c =
    fails (asked_by Solve c.args.words.now) c.args.outcome.now c.book-book.result.now c.end.result.now c.requires.found
    c.book-book.ensures.value c.limit-limit.ensures.kept c.book-book.ensures.cause c.book-book.ensures.answer
    c.end.ensures.value c.in_ok-follower_spent-in-Follower.field-0 c.in-Follower.spent c.in-Follower.is
    c.in_ok-follower_spent-in-Follower.ensures.exhausted c.in_ok-follower_spent-in-Follower.ensures.told
