use Rattle.std.proofs.Common.{refl}
use Rattle.std.specs.Prelude.{pos}
use Rattle.std.proofs.lemmas.Option.{MatchOption-at_none}
use Rattle.bl_run.proofs.StepLemmas.{mps_too_long}
use Rattle.bl_run.proofs.read.read_mps.Goals as goal

pub returns-in_default-clause-failed : goal.returns-in_default-clause-failed
returns-in_default-clause-failed g c = (
  refl,
  mps_too_long _ c.args.name.now (pos c.args.default_upper) _ _ c.mps_fault.ensures.place c.mps_fault.ensures.rule
      (MatchOption-at_none _ _ c.in_default.is c.in_ok-text.ensures.read),
)
