use Rattle.std.proofs.Common.{refl}
use Rattle.std.proofs.lemmas.Option.{MatchOption-at_none}
use Rattle.bl_run.proofs.StepLemmas.{aux_too_long}
use Rattle.bl_run.proofs.read.read_aux.Goals as goal

pub returns-in_default-clause-failed : goal.returns-in_default-clause-failed
returns-in_default-clause-failed g c = (
  refl,
  aux_too_long _ c.args.name.now c.args.mps.now _ _ c.aux_fault.ensures.place c.aux_fault.ensures.rule
      (MatchOption-at_none _ _ c.in_default.is c.in_ok-text.ensures.read),
)
