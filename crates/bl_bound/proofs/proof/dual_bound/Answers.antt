use Rattle.std.proofs.Common.{rules, pos, FitsSigned}
use Rattle.std.specs.Int.{w128}
use Rattle.std.proofs.lemmas.Int.{to_z-of_z}
use Rattle.std.proofs.lemmas.List.{get_or-replicate}
use Rattle.bl_terms.proofs.BoundSizes.{bound_sums_fit}
use Rattle.bl_bound.proofs.proof.dual_bound.Goals as goal

pub add_rows-rhs-requires-clause-fits : goal.add_rows-rhs-requires-clause-fits
add_rows-rhs-requires-clause-fits c =
    bound_sums_fit c.args.problem.now c.args.proof.now c.requires.problem_fits c.requires.multipliers c.requires.rows

pub add_rows-rhs-requires-clause-zeros : goal.add_rows-rhs-requires-clause-zeros
add_rows-rhs-requires-clause-zeros c = λ j h. get_or-replicate 120 j (pos 0) (pos 0) h

pub least_sum-least-requires-clause-fits : goal.least_sum-least-requires-clause-fits
least_sum-least-requires-clause-fits c =
    bound_sums_fit c.args.problem.now c.args.proof.now c.requires.problem_fits c.requires.multipliers c.requires.rows

pub minus-requires : goal.minus-requires
minus-requires c =
    let least : FitsSigned w128 c.least_sum-least.result = search rules in
    let rhs : FitsSigned w128 c.add_rows-rhs.result = search rules in
    let fits = bound_sums_fit c.args.problem.now c.args.proof.now c.requires.problem_fits c.requires.multipliers
    c.requires.rows in
    rw (to_z-of_z w128 _ least, to_z-of_z w128 _ rhs, c.least_sum-least.ensures, c.add_rows-rhs.ensures.rhs) fits.bound
