use Rattle.std.proofs.Common.{rules, ◌≡◌, ◌<◌, pos, to_z, of_z}
use Rattle.std.proofs.Common.{FitsSigned, ◌∙◌, ap, arith}
use Rattle.std.specs.Prelude.{slice_index_or}
use Rattle.std.specs.Int.{w64}
use Rattle.std.proofs.lemmas.Int.{to_z-of_z}
use Rattle.std.proofs.lemmas.List.{get_or_read}
use Rattle.bl_whole.specs.Sums.{component}
use Rattle.bl_simplex.specs.Rationals.{fraction_at}
use Rattle.bl_simplex.specs.Dictionaries.{columns}
use Rattle.bl_licence.proofs.Multiples.{zero_fraction}
use Rattle.bl_relax.proofs.WholePoints.{point_more, range_read, column_read}
use Rattle.bl_relax.proofs.point.whole_point.Goals as goal
use Rattle.bl_relax.proofs.point.whole_point.Goals.{After-index-distances-j}

distance_is : (c : After-index-distances-j) → c.index-distances-j.result ≡ fraction_at c.args.distances.now c.loop-j.j
distance_is c = get_or_read c.args.distances.now c.loop-j.j c.index-distances-j.result c.loop-j-test.true
    c.index-distances-j.is zero_fraction

cost_is : (c : After-index-distances-j)
    → to_z w64 (of_z w64 (slice_index_or c.cost-cost.result.now c.loop-j.j (pos 0)))
    ≡ component c.args.problem.now.cost c.loop-j.j
cost_is c = let fits : FitsSigned w64 (slice_index_or c.cost-cost.result.now c.loop-j.j (pos 0)) = search rules in
    to_z-of_z w64 _ fits ∙ ap (λ xs. component xs c.loop-j.j) c.cost-cost.ensures.value

low_is : (c : After-index-distances-j)
    → to_z w64 (of_z w64 (slice_index_or c.lo-lo.result.now c.loop-j.j (pos 0)))
    ≡ component c.args.problem.now.area.lo c.loop-j.j
low_is c = let fits : FitsSigned w64 (slice_index_or c.lo-lo.result.now c.loop-j.j (pos 0)) = search rules in
    to_z-of_z w64 _ fits ∙ ap (λ xs. component xs c.loop-j.j) c.lo-lo.ensures.value

high_is : (c : After-index-distances-j)
    → to_z w64 (of_z w64 (slice_index_or c.hi-hi.result.now c.loop-j.j (pos 0)))
    ≡ component c.args.problem.now.area.hi c.loop-j.j
high_is c = let fits : FitsSigned w64 (slice_index_or c.hi-hi.result.now c.loop-j.j (pos 0)) = search rules in
    to_z-of_z w64 _ fits ∙ ap (λ xs. component xs c.loop-j.j) c.hi-hi.ensures.value

pub column_at-column-requires-clause-in_range : goal.column_at-column-requires-clause-in_range
column_at-column-requires-clause-in_range c =
    let j = c.loop-j.j in
    let q = c.args.problem.now in
    let l : j < columns q = (let h = c.loop-j-test.true in let e = c.requires.size in omega arith) in
    range_read (component q.area.lo j) (component q.area.hi j) _ _ (fraction_at c.args.distances.now j)
    c.index-distances-j.result (low_is c) (high_is c) (distance_is c) (c.requires.in_box j l)

pub loop-j-preserved : goal.loop-j-preserved
loop-j-preserved c =
    let b : After-index-distances-j = c.before.before.before.before.before in
    let q = c.args.problem.now in
    let j = c.loop-j.j in
    let fits : FitsSigned w64 c.column_at-column.result = search rules in
    let value = to_z-of_z w64 _ fits
    ∙ column_read q j (fraction_at c.args.distances.now j) c.index-distances-j.result _ _ _ c.column_at-column.result
    (cost_is b) (low_is b) (high_is b) (distance_is b) c.column_at-column.ensures in
    point_more q c.args.distances.now c.loop-j.point.items _ j _ c.loop-j.invariant c.in_ok-push.ensures.items value
