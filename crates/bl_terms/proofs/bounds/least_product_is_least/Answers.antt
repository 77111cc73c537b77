use Rattle.bl_terms.proofs.BoundLemmas.{least_product_is_least}
use Rattle.bl_terms.proofs.bounds.least_product_is_least.Goals as goal

pub returns : goal.returns
returns c = least_product_is_least
