use Rattle.bl_duality.proofs.ClosingCosts.{closing_cost_proves}
use Rattle.bl_duality.proofs.laws.closing_cost_proves.Goals as goal

pub returns : goal.returns
returns c = closing_cost_proves
