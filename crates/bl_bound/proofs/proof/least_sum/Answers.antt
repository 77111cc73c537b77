use Rattle.std.proofs.Common.{rules, ◌≡◌, ◌+◌, ◌<◌, ◌≤◌, pos, length, to_z, of_z, FitsSigned, ◌∙◌, sym, ap, arith}
use Rattle.std.proofs.Common.{add-one}
use Rattle.std.specs.Prelude.{slice_index_or, ◌+ℤ◌, ◌*ℤ◌}
use Rattle.std.specs.Int.{w64, w128}
use Rattle.std.proofs.lemmas.Int.{to_z-of_z}
use Rattle.bl_whole.specs.Sums.{component, sum_below}
use Rattle.bl_whole.proofs.SumLemmas.{sum_below_more}
use Rattle.bl_terms.specs.Bounds.{reduced_cost, least_term}
use Rattle.bl_bound.proofs.SumSteps.{reduced_is, least_is}
use Rattle.bl_bound.proofs.proof.least_sum.Goals as goal
use Rattle.bl_bound.proofs.proof.least_sum.Goals.{After-least_term_of-arg-in-loop-j-4-1, After-least_term_of-term}

-- the numbers that a column's term is made of give its reduced cost
reduced : (c : After-least_term_of-arg-in-loop-j-4-1)
    → to_z w64 (of_z w64 c.proof.inside.den)
    *ℤ to_z w64 (of_z w64 (slice_index_or c.cost-cost.result.now c.loop-j.j (pos 0)))
    +ℤ to_z w128 (of_z w128 (slice_index_or c.args.sums.now c.loop-j.j (pos 0)))
    ≡ reduced_cost c.args.problem.now c.args.proof.now c.loop-j.j
reduced c =
    let j = c.loop-j.j in
    let part : FitsSigned w128 (slice_index_or c.args.sums.now j (pos 0)) = search rules in
    let cost : FitsSigned w64 (slice_index_or c.cost-cost.result.now j (pos 0)) = search rules in
    let den : FitsSigned w64 c.proof.inside.den = search rules in
    let inside : j < length c.args.problem.now.area.lo = omega (arith, ap length c.lo-lo.ensures.value) in
    reduced_is c.args.problem.now c.args.proof.now _ _ _ j (to_z-of_z w64 _ den ∙ ap (λ w. w.den) c.proof.view_is)
    (to_z-of_z w64 _ cost ∙ ap (λ xs. component xs j) c.cost-cost.ensures.value)
    (to_z-of_z w128 _ part ∙ c.requires.columns j inside)

low : (c : After-least_term_of-arg-in-loop-j-4-1)
    → to_z w64 (of_z w64 (slice_index_or c.lo-lo.result.now c.loop-j.j (pos 0)))
    ≡ component c.args.problem.now.area.lo c.loop-j.j
low c =
    let j = c.loop-j.j in
    let fits : FitsSigned w64 (slice_index_or c.lo-lo.result.now j (pos 0)) = search rules in
    to_z-of_z w64 _ fits ∙ ap (λ xs. component xs j) c.lo-lo.ensures.value

high : (c : After-least_term_of-arg-in-loop-j-4-1)
    → to_z w64 (of_z w64 (slice_index_or c.hi-hi.result.now c.loop-j.j (pos 0)))
    ≡ component c.args.problem.now.area.hi c.loop-j.j
high c =
    let j = c.loop-j.j in
    let fits : FitsSigned w64 (slice_index_or c.hi-hi.result.now j (pos 0)) = search rules in
    to_z-of_z w64 _ fits ∙ ap (λ xs. component xs j) c.hi-hi.ensures.value

pub least_term_of-term-requires-clause-reduced : goal.least_term_of-term-requires-clause-reduced
least_term_of-term-requires-clause-reduced c = rw (reduced c) (c.requires.fits.reduced c.loop-j.j)

pub least_term_of-term-requires-clause-low : goal.least_term_of-term-requires-clause-low
least_term_of-term-requires-clause-low c = rw (reduced c, low c) (c.requires.fits.low_product c.loop-j.j)

pub least_term_of-term-requires-clause-high : goal.least_term_of-term-requires-clause-high
least_term_of-term-requires-clause-high c = rw (reduced c, high c) (c.requires.fits.high_product c.loop-j.j)

term : (c : After-least_term_of-term)
    → to_z w128 (of_z w128 c.least_term_of-term.result) ≡ least_term c.args.problem.now c.args.proof.now c.loop-j.j
term c =
    let fits : FitsSigned w128 c.least_term_of-term.result = search rules in
    to_z-of_z w128 _ fits ∙ c.least_term_of-term.ensures
    ∙ least_is c.args.problem.now c.args.proof.now _ _ _ c.loop-j.j (reduced c.before) (low c.before)
    (high c.before)

pub plus-sum-requires : goal.plus-sum-requires
plus-sum-requires c =
    let inside : c.loop-j.j + 1 ≤ length c.args.problem.now.area.lo = omega (arith, ap length c.lo-lo.ensures.value) in
    rw (term c, c.loop-j.invariant) (rw add-one at (c.requires.fits.least_part (c.loop-j.j + 1) inside))

pub loop-j-preserved : goal.loop-j-preserved
loop-j-preserved c =
    let fits : FitsSigned w128 c.plus-sum.result = search rules in
    to_z-of_z w128 _ fits ∙ c.plus-sum.ensures ∙ ap (λ t. to_z w128 c.loop-j.sum-bits +ℤ t) (term c.before)
    ∙ ap (λ s. s +ℤ least_term c.args.problem.now c.args.proof.now c.loop-j.j) c.loop-j.invariant
    ∙ sym (sum_below_more c.loop-j.j (least_term c.args.problem.now c.args.proof.now))

pub returns : goal.returns
returns c =
    let last : c.loop-j.j ≡ length c.args.problem.now.area.lo = omega (arith, ap length c.lo-lo.ensures.value) in
    c.loop-j.invariant ∙ ap (λ n. sum_below n (least_term c.args.problem.now c.args.proof.now)) last
