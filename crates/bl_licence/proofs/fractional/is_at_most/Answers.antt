use Rattle.std.proofs.Common.{rules, ◌≡◌, ℕ, ◌+◌, ◌*◌, ◌^◌, ◌<◌, ◌≤◌, length, pos, ◌*ℤ◌, to_z, of_z, FitsSigned, sym}
use Rattle.std.proofs.Common.{ap, ◌∙◌, subst, arith}
use Rattle.std.specs.Int.{w128}
use Rattle.std.proofs.lemmas.Int.{to_z-of_z}
use Rattle.bl_whole.proofs.WithinLemmas.{within_entry, product_fits, dots_fit, within_product, fits_from_within}
use Rattle.bl_frac.proofs.Signed.{signed_of}
use Rattle.bl_licence.proofs.Orders.{at_most_test}
use Rattle.bl_licence.proofs.fractional.is_at_most.Goals as goal

pub dot-sum-requires-clause-products : goal.dot-sum-requires-clause-products
dot-sum-requires-clause-products c =
    λ k l. product_fits w128 (within_entry c.requires.coefs k) (within_entry c.requires.point k) (omega arith)

pub dot-sum-requires-clause-fits : goal.dot-sum-requires-clause-fits
dot-sum-requires-clause-fits c = let few = c.requires.few in
    dots_fit w128 c.requires.coefs c.requires.point (omega arith)

pub times-most-requires : goal.times-most-requires
times-most-requires c =
    let rhs = to_z-of_z w128 c.args.rhs c.ranges.rhs in
    let common = signed_of c.args.common (let h = c.requires.small in omega arith) in
    rw (rhs, common) (product_fits w128 {n = 2 ^ 50} {b = pos c.args.common} c.requires.rhs_fits
    (record { magnitude = c.requires.small }) (omega arith))

pub returns : goal.returns
returns c =
    let sum : FitsSigned w128 c.dot-sum.result = search rules in
    let most : FitsSigned w128 c.times-most.result = search rules in
    let rhs = to_z-of_z w128 c.args.rhs c.ranges.rhs in
    let common = signed_of c.args.common (let h = c.requires.small in omega arith) in
    at_most_test _ _ _ _ (to_z-of_z w128 _ sum ∙ c.dot-sum.ensures)
    (to_z-of_z w128 _ most ∙ c.times-most.ensures ∙ ap (λ z. z *ℤ to_z w128 c.args.common) rhs
    ∙ ap (λ z. c.args.rhs *ℤ z) common)
