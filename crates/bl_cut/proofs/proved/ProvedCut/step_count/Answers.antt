use Rattle.std.proofs.Common.{subst}
use Rattle.bl_cut.specs.Cuts.{IsValidCut}
use Rattle.bl_cut.proofs.CutLemmas.{valid}
use Rattle.bl_cut.proofs.proved.ProvedCut.step_count.Goals as goal

pub returns-clause-valid : goal.returns-clause-valid
returns-clause-valid c = subst IsValidCut c.self.view_is (valid _ c.self.invariant)
