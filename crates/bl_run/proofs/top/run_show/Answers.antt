use Rattle.bl_run.specs.Words.{show_alone}
use Rattle.bl_run.specs.Steps.{result_ending}
use Rattle.bl_run.proofs.PromiseLemmas.{promised}
use Rattle.bl_run.proofs.top.run_show.Goals as goal

pub returns : goal.returns
returns g c =
    promised show_alone _ _ _ _ _ (result_ending c.show_command-ended.result) _ c.show_command-ended.ensures
    c.end.ensures.status c.end.ensures.told
