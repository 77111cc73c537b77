use Rattle.std.proofs.Common.{rules, ◌≡◌, ◌+◌, pos, to_z, of_z, FitsSigned, ◌∙◌, sym, ap, subst, arith}
use Rattle.std.specs.Prelude.{slice_index_or, ◌+ℤ◌}
use Rattle.std.specs.Int.{w64, w128}
use Rattle.std.proofs.lemmas.Int.{to_z-of_z}
use Rattle.bl_whole.specs.Sums.{component}
use Rattle.bl_whole.proofs.SumLemmas.{sum_below_more}
use Rattle.bl_whole.proofs.WithinLemmas.{within_entry, product_fits, fits_from_within}
use Rattle.bl_terms.specs.Bounds.{least_product}
use Rattle.bl_bound.proofs.SumSteps.{least_part_within}
use Rattle.bl_bound.proofs.plain.least_value.Goals as goal
use Rattle.bl_bound.proofs.plain.least_value.Goals.{After-least_product-arg-in-loop-j-1, After-least_product-term}

coef_is : (c : After-least_product-arg-in-loop-j-1)
    → to_z w128 (of_z w128 c.from.result) ≡ component c.args.coefs.now c.loop-j.j
coef_is c =
    let widened : FitsSigned w128 c.from.result = search rules in
    let coef : FitsSigned w64 (slice_index_or c.args.coefs.now c.loop-j.j (pos 0)) = search rules in
    to_z-of_z w128 _ widened ∙ c.from.ensures ∙ to_z-of_z w64 _ coef

low_is : (c : After-least_product-arg-in-loop-j-1)
    → to_z w64 (of_z w64 (slice_index_or c.args.lo.now c.loop-j.j (pos 0))) ≡ component c.args.lo.now c.loop-j.j
low_is c =
    let fits : FitsSigned w64 (slice_index_or c.args.lo.now c.loop-j.j (pos 0)) = search rules in
    to_z-of_z w64 _ fits

high_is : (c : After-least_product-arg-in-loop-j-1)
    → to_z w64 (of_z w64 (slice_index_or c.args.hi.now c.loop-j.j (pos 0))) ≡ component c.args.hi.now c.loop-j.j
high_is c =
    let fits : FitsSigned w64 (slice_index_or c.args.hi.now c.loop-j.j (pos 0)) = search rules in
    to_z-of_z w64 _ fits

term_is : (c : After-least_product-term)
    → to_z w128 (of_z w128 c.least_product-term.result)
    ≡ least_product (component c.args.coefs.now c.loop-j.j) (component c.args.lo.now c.loop-j.j)
    (component c.args.hi.now c.loop-j.j)
term_is c =
    let fits : FitsSigned w128 c.least_product-term.result = search rules in
    let j = c.loop-j.j in
    to_z-of_z w128 _ fits ∙ c.least_product-term.ensures
    ∙ ap (λ a. least_product a (to_z w64 (of_z w64 (slice_index_or c.args.lo.now j (pos 0))))
    (to_z w64 (of_z w64 (slice_index_or c.args.hi.now j (pos 0))))) (coef_is c.before)
    ∙ ap (λ a. least_product (component c.args.coefs.now j) a
    (to_z w64 (of_z w64 (slice_index_or c.args.hi.now j (pos 0))))) (low_is c.before)
    ∙ ap (λ a. least_product (component c.args.coefs.now j) (component c.args.lo.now j) a) (high_is c.before)

pub least_product-term-requires-clause-low : goal.least_product-term-requires-clause-low
least_product-term-requires-clause-low c =
    rw (coef_is c, low_is c)
    (product_fits w128 (within_entry c.requires.coefs c.loop-j.j) (within_entry c.requires.lower_bounds c.loop-j.j)
    (omega arith))

pub least_product-term-requires-clause-high : goal.least_product-term-requires-clause-high
least_product-term-requires-clause-high c =
    rw (coef_is c, high_is c)
    (product_fits w128 (within_entry c.requires.coefs c.loop-j.j) (within_entry c.requires.upper_bounds c.loop-j.j)
    (omega arith))

pub plus-sum-requires : goal.plus-sum-requires
plus-sum-requires c =
    let j = c.loop-j.j in
    let few = c.requires.few in
    let more = sum_below_more j
    (λ k. least_product (component c.args.coefs.now k) (component c.args.lo.now k) (component c.args.hi.now k)) in
    let all = fits_from_within w128
    (least_part_within c.args.coefs.now c.args.lo.now c.args.hi.now
    (j + 1) c.requires.coefs c.requires.lower_bounds c.requires.upper_bounds) (omega arith) in
    rw (term_is c, c.loop-j.invariant) (subst (FitsSigned w128) more all)

pub loop-j-preserved : goal.loop-j-preserved
loop-j-preserved c =
    let j = c.loop-j.j in
    let fits : FitsSigned w128 c.plus-sum.result = search rules in
    let more = sum_below_more j
    (λ k. least_product (component c.args.coefs.now k) (component c.args.lo.now k) (component c.args.hi.now k)) in
    to_z-of_z w128 _ fits ∙ c.plus-sum.ensures ∙ ap (λ t. to_z w128 c.loop-j.sum-bits +ℤ t) (term_is c.before)
    ∙ ap (λ s. s +ℤ least_product (component c.args.coefs.now j) (component c.args.lo.now j)
    (component c.args.hi.now j)) c.loop-j.invariant ∙ sym more
