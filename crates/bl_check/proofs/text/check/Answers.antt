use Rattle.bl_check.proofs.Truth.{checked_holds}
use Rattle.bl_check.proofs.text.check.Goals as goal

pub returns-clause-holds : goal.returns-clause-holds
returns-clause-holds c =
    checked_holds c.args.model.now c.args.bytes.now c.verdict.result c.sense-sense.ensures.model c.verdict.ensures
