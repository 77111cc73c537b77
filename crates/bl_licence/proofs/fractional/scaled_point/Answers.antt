use Rattle.std.proofs.Common.{rules, ◌≡◌, ◌≤ℤ◌, ◌+◌, ◌<◌, ◌≤◌, Bool, true, false, cond, pos, length, ℤ, ◌-ℤ◌, to_z}
use Rattle.std.proofs.Common.{of_z, FitsSigned, ◌∙◌, sym, ap, subst, arith}
use Rattle.std.specs.Prelude.{slice_index_or, ◌+ℤ◌, ◌*ℤ◌, int_lt}
use Rattle.std.specs.Int.{w64, w128, ◌∣◌}
use Rattle.std.proofs.lemmas.Int.{ints, to_z-of_z}
use Rattle.std.proofs.lemmas.List.{get_or_read}
use Rattle.bl_limits.specs.declared.TheConstants.{MAX_NUMBER}
use Rattle.bl_whole.specs.Sums.{component}
use Rattle.bl_whole.specs.Within.{IsWithin}
use Rattle.bl_whole.proofs.WithinLemmas.{within_entry, within_high, within_low}
use Rattle.bl_simplex.specs.Fractions.{Fraction}
use Rattle.bl_simplex.specs.Rationals.{fraction_at, times_multiple, IsAtMost}
use Rattle.bl_simplex.specs.Dictionaries.{columns, start_at, sign_at}
use Rattle.bl_licence.specs.Steps.{scaled_column, scaled_size}
use Rattle.bl_licence.proofs.Multiples.{zero_fraction}
use Rattle.bl_licence.proofs.Distances.{range_at_most, columns_more, start_read, start_within, column_is}
use Rattle.bl_licence.proofs.fractional.scaled_point.Goals as goal
use Rattle.bl_licence.proofs.fractional.scaled_point.Goals.{After-index-distances-j, After-start_of-start}

distance_is : (c : After-index-distances-j) → c.index-distances-j.result ≡ fraction_at c.args.distances.now c.loop-j.j
distance_is c = get_or_read c.args.distances.now c.loop-j.j c.index-distances-j.result c.loop-j-test.true
    c.index-distances-j.is zero_fraction

inside : (c : After-index-distances-j) → c.loop-j.j < columns c.args.problem.now
inside c = let h = c.loop-j-test.true in let e = c.requires.size in omega arith

pub scaled_distance-distance-requires-clause-multiple : goal.scaled_distance-distance-requires-clause-multiple
scaled_distance-distance-requires-clause-multiple c =
    subst (λ f. f.den ∣ c.args.common) (sym (distance_is c)) (c.requires.multiple c.loop-j.j (inside c))

pub scaled_distance-distance-requires-clause-most : goal.scaled_distance-distance-requires-clause-most
scaled_distance-distance-requires-clause-most c =
    let j = c.loop-j.j in
    let q = c.args.problem.now in
    let high = within_high (within_entry c.requires.problem_fits.upper_bounds j) in
    let low = within_low (within_entry c.requires.problem_fits.lower_bounds j) in
    let range : (component q.area.hi j -ℤ component q.area.lo j) ≤ℤ pos 20000000 = omega (arith, ints) in
    subst (λ f. IsAtMost f (pos 20000000)) (sym (distance_is c))
    (range_at_most (fraction_at c.args.distances.now j)
    (component q.area.hi j -ℤ component q.area.lo j) 20000000 range (c.requires.in_range j (inside c)).1)

cost_is : (c : After-start_of-start)
    → to_z w64 (of_z w64 (slice_index_or c.cost-cost.result.now c.loop-j.j (pos 0)))
    ≡ component c.args.problem.now.cost c.loop-j.j
cost_is c = let fits : FitsSigned w64 (slice_index_or c.cost-cost.result.now c.loop-j.j (pos 0)) = search rules in
    to_z-of_z w64 _ fits ∙ ap (λ xs. component xs c.loop-j.j) c.cost-cost.ensures.value

low_is : (c : After-start_of-start)
    → to_z w64 (of_z w64 (slice_index_or c.lo-lo.result.now c.loop-j.j (pos 0)))
    ≡ component c.args.problem.now.area.lo c.loop-j.j
low_is c = let fits : FitsSigned w64 (slice_index_or c.lo-lo.result.now c.loop-j.j (pos 0)) = search rules in
    to_z-of_z w64 _ fits ∙ ap (λ xs. component xs c.loop-j.j) c.lo-lo.ensures.value

high_is : (c : After-start_of-start)
    → to_z w64 (of_z w64 (slice_index_or c.hi-hi.result.now c.loop-j.j (pos 0)))
    ≡ component c.args.problem.now.area.hi c.loop-j.j
high_is c = let fits : FitsSigned w64 (slice_index_or c.hi-hi.result.now c.loop-j.j (pos 0)) = search rules in
    to_z-of_z w64 _ fits ∙ ap (λ xs. component xs c.loop-j.j) c.hi-hi.ensures.value

start_is : (c : After-start_of-start)
    → to_z w64 (of_z w64 c.start_of-start.result) ≡ start_at c.args.problem.now c.loop-j.j
start_is c =
    let fits : FitsSigned w64 c.start_of-start.result = search rules in
    to_z-of_z w64 _ fits ∙ c.start_of-start.ensures
    ∙ start_read c.args.problem.now c.loop-j.j _ _ _ (cost_is c) (low_is c) (high_is c)

pub scaled_column-column-requires-clause-start : goal.scaled_column-column-requires-clause-start
scaled_column-column-requires-clause-start c =
    subst (IsWithin MAX_NUMBER) (sym (start_is c.before.before))
    (start_within c.args.problem.now c.loop-j.j (within_entry c.requires.problem_fits.lower_bounds c.loop-j.j)
    (within_entry c.requires.problem_fits.upper_bounds c.loop-j.j))

pub loop-j-preserved : goal.loop-j-preserved
loop-j-preserved c =
    let b = c.before.before.before.before.before.before.before in
    let q = c.args.problem.now in
    let j = c.loop-j.j in
    let fits : FitsSigned w128 c.scaled_column-column.result = search rules in
    let moved : FitsSigned w128 c.directed-moved.result = search rules in
    let distance : FitsSigned w128 c.scaled_distance-distance.result = search rules in
    let value = to_z-of_z w128 _ fits ∙ c.scaled_column-column.ensures.value
    ∙ column_is q c.args.common (fraction_at c.args.distances.now) j _ _ _ _ (start_is b) (cost_is b)
    (to_z-of_z w128 _ moved ∙ c.directed-moved.ensures.value)
    (to_z-of_z w128 _ distance ∙ c.scaled_distance-distance.ensures.value
    ∙ ap (times_multiple c.args.common)
    (get_or_read c.args.distances.now j c.index-distances-j.result c.loop-j-test.true c.index-distances-j.is
    zero_fraction)) in
    columns_more q c.args.common
    (fraction_at c.args.distances.now) c.loop-j.point.items _ j _ c.loop-j.invariant c.in_ok-push.ensures.items
    value (subst (IsWithin scaled_size) (sym (to_z-of_z w128 _ fits)) c.scaled_column-column.ensures.size)
