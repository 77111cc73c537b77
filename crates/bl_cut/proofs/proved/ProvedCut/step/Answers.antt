use Rattle.std.proofs.Common.{subst}
use Rattle.bl_cut.specs.Cuts.{IsValidCut}
use Rattle.bl_cut.proofs.CutLemmas.{valid}
use Rattle.bl_cut.proofs.proved.ProvedCut.step.Goals as goal

pub returns-then-place-len-clause-valid : goal.returns-then-place-len-clause-valid
returns-then-place-len-clause-valid c = subst IsValidCut c.self.view_is (valid _ c.self.invariant)

pub returns-else-place-len-clause-valid : goal.returns-else-place-len-clause-valid
returns-else-place-len-clause-valid c = subst IsValidCut c.self.view_is (valid _ c.self.invariant)
