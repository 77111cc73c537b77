use Rattle.std.proofs.Common.{rules, pos, to_z, of_z, FitsSigned, ◌∙◌, ap, arith}
use Rattle.std.specs.Prelude.{slice_index_or, ◌+ℤ◌, ◌*ℤ◌}
use Rattle.std.specs.Int.{w64, w128}
use Rattle.std.proofs.lemmas.Int.{to_z-of_z}
use Rattle.bl_bound.proofs.SumSteps.{added_more}
use Rattle.bl_bound.proofs.sums.add_multiple.Goals as goal

pub plus_widening_product-requires : goal.plus_widening_product-requires
plus_widening_product-requires c =
    let j = c.loop-j.j in
    let a = c.loop-j.invariant in
    let sum : FitsSigned w128 (slice_index_or c.loop-j.sums j (pos 0)) = search rules in
    let number : FitsSigned w64 (slice_index_or c.args.numbers.now j (pos 0)) = search rules in
    rw (to_z-of_z w128 _ sum, to_z-of_z w64 _ number, to_z-of_z w64 _ c.ranges.factor, a.rest j (omega arith))
    (c.requires.fits j (omega arith))

pub loop-j-preserved : goal.loop-j-preserved
loop-j-preserved c =
    let j = c.loop-j.j in
    let xs = c.loop-j.sums in
    let sum : FitsSigned w128 (slice_index_or xs j (pos 0)) = search rules in
    let number : FitsSigned w64 (slice_index_or c.args.numbers.now j (pos 0)) = search rules in
    let result : FitsSigned w128 c.plus_widening_product.result = search rules in
    let factor = to_z w64 (of_z w64 c.args.factor) in
    let value = to_z-of_z w128 _ result ∙ c.plus_widening_product.ensures
    ∙ ap (λ s. s +ℤ factor *ℤ to_z w64 (of_z w64 (slice_index_or c.args.numbers.now j (pos 0))))
    (to_z-of_z w128 _ sum) ∙ ap (λ n. slice_index_or xs j (pos 0) +ℤ factor *ℤ n) (to_z-of_z w64 _ number) in
    added_more c.args.sums.now xs c.args.numbers.now factor _ j c.loop-j.invariant (omega arith) value
