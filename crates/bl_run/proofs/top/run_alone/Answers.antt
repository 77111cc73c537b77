use Rattle.bl_run.specs.Words.{each_command}
use Rattle.bl_run.specs.Steps.{result_ending}
use Rattle.bl_run.proofs.PromiseLemmas.{promised}
use Rattle.bl_run.proofs.top.run_alone.Goals as goal

pub returns : goal.returns
returns g c =
    promised each_command _ _ _ _ _ (result_ending c.command-ended.result) _ c.command-ended.ensures
    c.end.ensures.status c.end.ensures.told
