use Rattle.bl_terms.proofs.EveryPointLemmas.{tests_decide}
use Rattle.bl_terms.proofs.examples.tests_decide.Goals as goal

pub returns : goal.returns
returns c = tests_decide
