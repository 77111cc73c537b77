use Rattle.bl_run.specs.Words.{check_alone}
use Rattle.bl_run.specs.Steps.{result_ending}
use Rattle.bl_run.proofs.PromiseLemmas.{promised}
use Rattle.bl_run.proofs.top.run_check.Goals as goal

pub returns : goal.returns
returns g c =
    promised check_alone _ _ _ _ _ (result_ending c.check_command-ended.result) _ c.check_command-ended.ensures
    c.end.ensures.status c.end.ensures.told
