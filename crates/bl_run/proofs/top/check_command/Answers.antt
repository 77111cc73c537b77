use Rattle.std.proofs.lemmas.Result.{err_from_is_err_and}
use Rattle.bl_run.specs.Words.{check_alone}
use Rattle.bl_run.proofs.StepLemmas.{no_memory, no_command, unchecked}
use Rattle.bl_run.proofs.top.check_command.Goals as goal

pub returns-in_err-asked : goal.returns-in_err-asked
returns-in_err-asked g c =
    let p = err_from_is_err_and c.from_residual.result c.from_residual.ensures.1 in
    rw (p.1, p.2) (no_memory check_alone _ _)

pub returns-in-None : goal.returns-in-None
returns-in-None g c =
    no_command check_alone _ _ (unchecked _ (rw c.in-None.is at c.in_ok-asked.ensures.refused))
