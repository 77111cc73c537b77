use Rattle.std.proofs.Common.{rules, ◌+◌, add-one, arith}
use Rattle.std.specs.Prelude.{pos, slice_index_or, FitsSigned}
use Rattle.std.specs.Int.{w64}
use Rattle.std.proofs.lemmas.Int.{to_z-of_z}
use Rattle.bl_whole.proofs.WithinLemmas.{within_entry, product_fits, dots_fit}
use Rattle.bl_model.proofs.points.dot.Goals as goal

pub plus_product-sum-requires-clause-product_fits :
    goal.plus_product-sum-requires-clause-product_fits
plus_product-sum-requires-clause-product_fits c =
    let coef : FitsSigned w64 (slice_index_or c.args.coef.now c.loop-k.k (pos 0)) = search rules in
    let value : FitsSigned w64 (slice_index_or c.args.z.now c.loop-k.k (pos 0)) = search rules in
    rw (to_z-of_z, to_z-of_z)
    (product_fits w64 (within_entry c.requires.coef c.loop-k.k) (within_entry c.requires.z c.loop-k.k)
    (omega arith))

pub plus_product-sum-requires-clause-sum_fits : goal.plus_product-sum-requires-clause-sum_fits
plus_product-sum-requires-clause-sum_fits c =
    let coef : FitsSigned w64 (slice_index_or c.args.coef.now c.loop-k.k (pos 0)) = search rules in
    let value : FitsSigned w64 (slice_index_or c.args.z.now c.loop-k.k (pos 0)) = search rules in
    let fit = dots_fit w64 c.requires.coef c.requires.z (omega (arith, c.requires.few)) in
    let more = rw add-one at (fit.each (c.loop-k.k + 1) (omega arith)) in
    rw (to_z-of_z, to_z-of_z, c.loop-k.invariant) more
