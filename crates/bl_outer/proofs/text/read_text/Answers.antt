use Rattle.bl_outer.proofs.Reading.{none_read, failed_read}
use Rattle.bl_outer.proofs.text.read_text.Goals as goal

pub returns-in_err-find-clause-text : goal.returns-in_err-find-clause-text
returns-in_err-find-clause-text g c =
    failed_read _ _ _ _ _ _ c.from_residual.ensures.1 (none_read _ _ _ c.clear.ensures.items)
