-- Trusted. Why an answer isn't admitted.
use Rattle.std.specs.Prelude.{ℤ, List}
use Rattle.bl_terms.specs.Programs.{Program}
use Rattle.bl_fproof.specs.declared.answered.Answered.{Answered}
use Rattle.bl_fproof.specs.declared.entry.AdmitFail.{AdmitFail}
use Rattle.bl_fproof.specs.declared.entry.AdmitFail.TheVariants.{NotShown, Memory}
use Rattle.bl_fproof.specs.Entries.{FailsAt}

-- a step fails first, or there is no memory
abbrev pub IsRefusal : Program → List ℤ → Answered → AdmitFail → Type 0
IsRefusal p l answered (NotShown node) = FailsAt p l answered node
IsRefusal p l answered Memory = Unit {0}
