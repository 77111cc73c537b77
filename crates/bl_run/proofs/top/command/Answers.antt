use Rattle.std.proofs.lemmas.Result.{err_from_is_err_and}
use Rattle.bl_run.specs.Words.{each_command}
use Rattle.bl_run.proofs.StepLemmas.{no_memory, reading_ends}
use Rattle.bl_run.proofs.top.command.Goals as goal

pub returns-in_err-asked : goal.returns-in_err-asked
returns-in_err-asked g c =
    let p = err_from_is_err_and c.from_residual.result c.from_residual.ensures.1 in
    rw (p.1, p.2) (no_memory each_command _ _)

pub returns-in-None : goal.returns-in-None
returns-in-None g c =
    reading_ends _ _ _ _ (rw c.in-None.is at c.in_ok-asked.ensures.refused) c.reading_command.ensures
