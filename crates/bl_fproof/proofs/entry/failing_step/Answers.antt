use Rattle.std.proofs.Common.{rules, ◌≡◌, ℕ, List}
use Rattle.std.specs.Prelude.{ℤ, Option, Some, None, MatchOption, FitsSigned}
use Rattle.std.specs.Int.{w64}
use Rattle.std.proofs.lemmas.Int.{to_z-of_z}
use Rattle.bl_fproof.specs.Steps.{nodes_of}
use Rattle.bl_fproof.specs.Entries.{Closes, FailsToClose, IsPointOfCost, whole_problem}
use Rattle.bl_fproof.specs.Points.{FailsAsPoint}
use Rattle.bl_fproof.proofs.Truth.{best_is_shown, none_is_shown}
use Rattle.bl_fproof.proofs.entry.failing_step.Goals as goal

pub returns-in-Best-clause-step : goal.returns-in-Best-clause-step
returns-in-Best-clause-step c =
    let p = c.args.model.now in
    let l = c.args.link.now in
    let v : FitsSigned w64 c.in-Best.value = search rules in
    let h = rw (to_z-of_z, c.as_slice.ensures, c.in_ok-rows.ensures.rows) at c.in_ok-step-in-Best.ensures in
    rw (c.in-Best.is)
    (best_is_shown p l c.in-Best.response c.in-Best.value c.in-Best.proof c.in_ok-step-in-Best.step
    c.in_ok-rows.ensures.model h)

pub returns-clause-step : goal.returns-clause-step
returns-clause-step c =
    let h = rw (c.as_slice-in-NoResponse.ensures, c.in_ok-rows.ensures.rows) at c.in_ok-step-in-NoResponse.ensures in
    rw (c.in-NoResponse.is)
    (none_is_shown c.args.model.now c.args.link.now c.in-NoResponse.proof c.in_ok-step-in-NoResponse.step h)
