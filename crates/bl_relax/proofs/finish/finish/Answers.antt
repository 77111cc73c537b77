use Rattle.std.proofs.Common.{rules}
use Rattle.bl_relax.proofs.LastAnswers.{row_answer, cost_answer, if_ok}
use Rattle.bl_relax.proofs.finish.finish.Goals as goal

pub returns-in-Some : goal.returns-in-Some
returns-in-Some c =
    if_ok _ _ c.closed.result
    (λ answer e. row_answer c.args.problem.now c.args.cutoff c.args.tableau.now c.in-Some.row c.in_ok-proof.proof answer
    c.requires.problem_fits c.requires.run c.in-Some.ensures c.in_ok-proof.ensures e) c.closed.ensures

pub returns-then-cost_closes : goal.returns-then-cost_closes
returns-then-cost_closes c =
    if_ok _ _ c.closed-then-cost_closes.result
    (λ answer e. cost_answer c.args.problem.now c.args.cutoff c.args.tableau.now c.in_ok-proof-2.proof answer
    c.requires.problem_fits c.requires.run c.in_default.ensures (c.cost_closes.ensures.0 (search rules))
    c.in_ok-proof-2.ensures e) c.closed-then-cost_closes.ensures
