use Rattle.std.proofs.Common.{rules, ◌↔◌, List, length, subst}
use Rattle.std.specs.Prelude.{IsTrue}
use Rattle.bl_simplex.specs.Fractions.{Fraction}
use Rattle.bl_simplex.specs.Rationals.{fraction_at}
use Rattle.bl_tableau.specs.Runs.{current}
use Rattle.bl_licence.specs.Steps.{PassesLimit}
use Rattle.bl_licence.proofs.Limits.{past_by_row, past_by_cost}
use Rattle.bl_licence.proofs.replay.closes_past_limit.Goals as goal

pub returns-in-Some : goal.returns-in-Some
returns-in-Some c =
    let t = c.args.tableau.now in
    let Test : List Fraction → Type 0 = λ xs. IsTrue c.in_ok-past.past ↔ PassesLimit (length xs) (fraction_at xs) in
    let test : Test c.in_ok-multipliers.multipliers.items = subst Test c.deref.ensures.value c.in_ok-past.ensures in
    past_by_row t.problem c.args.cutoff
    (current t) c.in-Some.row c.in_ok-past.past c.in_ok-multipliers.multipliers.items c.in-Some.ensures
    c.in_ok-multipliers.ensures test

pub returns : goal.returns
returns c =
    let t = c.args.tableau.now in
    let Test : List Fraction → Type 0 = λ xs. IsTrue c.in_ok-past-2.past ↔ PassesLimit (length xs) (fraction_at xs) in
    let test : Test c.in_ok-multipliers-2.multipliers.items =
    subst Test c.deref-2.ensures.value c.in_ok-past-2.ensures in
    let cost = c.cost_closes.ensures.0 (search rules) in
    past_by_cost t.problem c.args.cutoff
    (current t) c.in_ok-past-2.past c.in_ok-multipliers-2.multipliers.items c.in_default.ensures cost
    c.in_ok-multipliers-2.ensures test
