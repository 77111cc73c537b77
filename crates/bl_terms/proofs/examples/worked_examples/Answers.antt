use Rattle.bl_terms.proofs.ExampleLemmas.{worked_examples}
use Rattle.bl_terms.proofs.examples.worked_examples.Goals as goal

pub returns : goal.returns
returns c = worked_examples
