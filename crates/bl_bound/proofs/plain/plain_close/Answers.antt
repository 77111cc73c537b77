use Rattle.std.proofs.Common.{sym, ◌∙◌}
use Rattle.std.specs.Prelude.{None}
use Rattle.std.proofs.lemmas.Bool.{false≢true}
use Rattle.bl_bound.proofs.PlainLaws.{plain_by_row, plain_by_cost, no_plain, one_point}
use Rattle.bl_bound.proofs.plain.plain_close.Goals as goal

pub returns-in-Some-clause-plain : goal.returns-in-Some-clause-plain
returns-in-Some-clause-plain c =
    plain_by_row c.args.problem.now c.args.cutoff _ c.in-Some.row c.requires.shape c.in-Some.ensures
    c.in_ok-proof.ensures

pub returns-in-Some-clause-one_point : goal.returns-in-Some-clause-one_point
returns-in-Some-clause-one_point c =
    one_point c.args.problem.now c.args.cutoff _ c.requires.shape
    (plain_by_row c.args.problem.now c.args.cutoff _ c.in-Some.row c.requires.shape c.in-Some.ensures
    c.in_ok-proof.ensures)

pub returns-then-cost_closes-clause-plain : goal.returns-then-cost_closes-clause-plain
returns-then-cost_closes-clause-plain c =
    plain_by_cost c.args.problem.now c.args.cutoff _ c.requires.shape c.in_default.ensures
    (c.cost_closes.ensures.0 c.if-cost_closes.true) c.in_ok-proof-2.ensures

pub returns-then-cost_closes-clause-one_point : goal.returns-then-cost_closes-clause-one_point
returns-then-cost_closes-clause-one_point c =
    one_point c.args.problem.now c.args.cutoff _ c.requires.shape
    (plain_by_cost c.args.problem.now c.args.cutoff _ c.requires.shape c.in_default.ensures
    (c.cost_closes.ensures.0 c.if-cost_closes.true) c.in_ok-proof-2.ensures)

pub returns-clause-plain : goal.returns-clause-plain
returns-clause-plain c =
    no_plain c.args.problem.now c.args.cutoff c.requires.shape c.in_default.ensures
    (λ l. false≢true (sym c.if-cost_closes.false ∙ c.cost_closes.ensures.1 l))

pub returns-clause-one_point : goal.returns-clause-one_point
returns-clause-one_point c =
    one_point c.args.problem.now c.args.cutoff None c.requires.shape
    (no_plain c.args.problem.now c.args.cutoff c.requires.shape c.in_default.ensures
    (λ l. false≢true (sym c.if-cost_closes.false ∙ c.cost_closes.ensures.1 l)))
