use Rattle.bl_terms.proofs.BoundSizes.{bound_sums_fit}
use Rattle.bl_terms.proofs.bounds.bound_sums_fit.Goals as goal

pub returns : goal.returns
returns c = bound_sums_fit
