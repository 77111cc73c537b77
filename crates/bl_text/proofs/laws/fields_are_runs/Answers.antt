use Rattle.bl_text.proofs.FieldLaws.{are_runs}
use Rattle.bl_text.proofs.laws.fields_are_runs.Goals as goal

pub returns : goal.returns
returns c = are_runs
