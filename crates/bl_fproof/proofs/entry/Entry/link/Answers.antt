use Rattle.std.proofs.Common.{subst}
use Rattle.bl_fproof.specs.Entries.{IsTrueAnswer}
use Rattle.bl_fproof.proofs.Truth.{admitted_is_true}
use Rattle.bl_fproof.proofs.entry.Entry.link.Goals as goal

pub returns-clause-holds : goal.returns-clause-holds
returns-clause-holds c = subst (λ e. IsTrueAnswer e) c.self.view_is (admitted_is_true _ c.self.invariant)
