use Rattle.std.proofs.Common.{rules, ◌≡◌, ◌+◌, ◌<◌, ◌≤◌, pos, length, to_z, of_z, FitsSigned, ◌∙◌, sym, ap, subst}
use Rattle.std.proofs.Common.{arith}
use Rattle.std.specs.Prelude.{slice_index_or, ◌+ℤ◌, ◌*ℤ◌}
use Rattle.std.specs.Int.{w64, w128}
use Rattle.std.proofs.lemmas.Int.{to_z-of_z}
use Rattle.bl_whole.specs.Sums.{component, sum_below}
use Rattle.bl_whole.proofs.SumLemmas.{sum_below_more}
use Rattle.bl_licence.proofs.fractional.dot.Goals as goal
use Rattle.bl_licence.proofs.fractional.dot.Goals.{After-plus_product-arg-1}

coef_is : (c : After-plus_product-arg-1) → to_z w128 (of_z w128 c.from.result) ≡ component c.args.coefs.now c.loop-k.k
coef_is c =
    let widened : FitsSigned w128 c.from.result = search rules in
    let coef : FitsSigned w64 (slice_index_or c.args.coefs.now c.loop-k.k (pos 0)) = search rules in
    to_z-of_z w128 _ widened ∙ c.from.ensures ∙ to_z-of_z w64 _ coef

value_is : (c : After-plus_product-arg-1)
    → to_z w128 (of_z w128 (slice_index_or c.args.values.now c.loop-k.k (pos 0)))
    ≡ component c.args.values.now c.loop-k.k
value_is c = let fits : FitsSigned w128 (slice_index_or c.args.values.now c.loop-k.k (pos 0)) = search rules in
    to_z-of_z w128 _ fits

sum_is : (c : After-plus_product-arg-1)
    → to_z w128 c.loop-k.sum-bits +ℤ to_z w128 (of_z w128 c.from.result)
    *ℤ to_z w128 (of_z w128 (slice_index_or c.args.values.now c.loop-k.k (pos 0)))
    ≡ sum_below (c.loop-k.k + 1) (λ j. component c.args.coefs.now j *ℤ component c.args.values.now j)
sum_is c =
    ap (λ a. to_z w128 c.loop-k.sum-bits +ℤ a
    *ℤ to_z w128 (of_z w128 (slice_index_or c.args.values.now c.loop-k.k (pos 0)))) (coef_is c)
    ∙ ap (λ b. to_z w128 c.loop-k.sum-bits +ℤ component c.args.coefs.now c.loop-k.k *ℤ b) (value_is c)
    ∙ ap (λ s. s +ℤ component c.args.coefs.now c.loop-k.k *ℤ component c.args.values.now c.loop-k.k) c.loop-k.invariant
    ∙ sym (sum_below_more c.loop-k.k (λ j. component c.args.coefs.now j *ℤ component c.args.values.now j))

pub plus_product-sum-requires-clause-sum_fits : goal.plus_product-sum-requires-clause-sum_fits
plus_product-sum-requires-clause-sum_fits c =
    subst (FitsSigned w128) (sym (sum_is c)) (c.requires.fits.each (c.loop-k.k + 1) (omega arith))

pub loop-k-preserved : goal.loop-k-preserved
loop-k-preserved c =
    let fits : FitsSigned w128 c.plus_product-sum.result = search rules in
    to_z-of_z w128 _ fits ∙ c.plus_product-sum.ensures ∙ sum_is c.before
