use Rattle.std.proofs.Common.{rules, ◌+◌, add-one, arith}
use Rattle.std.specs.Prelude.{pos, slice_index_or, FitsSigned}
use Rattle.std.specs.Int.{w64}
use Rattle.std.proofs.lemmas.Int.{to_z-of_z}
use Rattle.bl_whole.proofs.dots.dot_product.Goals as goal

pub plus_widening_product-sum-requires : goal.plus_widening_product-sum-requires
plus_widening_product-sum-requires c =
    let coef : FitsSigned w64 (slice_index_or c.args.coefs.now c.loop-k.k (pos 0)) = search rules in
    let value : FitsSigned w64 (slice_index_or c.args.values.now c.loop-k.k (pos 0)) = search rules in
    let more = rw add-one at (c.requires.fits.each (c.loop-k.k + 1) (omega arith)) in
    rw (
      to_z-of_z w64 (slice_index_or c.args.coefs.now c.loop-k.k (pos 0)) coef,
      to_z-of_z w64 (slice_index_or c.args.values.now c.loop-k.k (pos 0)) value,
      c.loop-k.invariant,
    )
    more
