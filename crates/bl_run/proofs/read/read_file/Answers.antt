use Rattle.bl_run.proofs.StepLemmas.{cut_off}
use Rattle.bl_run.proofs.read.read_file.Goals as goal

pub returns-in-Ok-Longer-clause-read : goal.returns-in-Ok-Longer-clause-read
returns-in-Ok-Longer-clause-read g c = cut_off _ _ _ (rw c.in-Ok-Longer.field-0-is at c.in-Ok-Longer.ensures.text)
