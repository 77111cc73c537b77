use Rattle.bl_duality.proofs.ClosingRows.{closing_row_proves}
use Rattle.bl_duality.proofs.laws.closing_row_proves.Goals as goal

pub returns : goal.returns
returns c = closing_row_proves
