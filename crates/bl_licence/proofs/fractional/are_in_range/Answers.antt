use Rattle.std.proofs.Common.{rules, ◌≡◌, ℕ, ◌+◌, ◌<◌, pos, ◌-ℤ◌, to_z, of_z, FitsSigned, sym, ap, ◌∙◌, subst}
use Rattle.std.proofs.Common.{below_more}
use Rattle.std.specs.Prelude.{slice_index_or}
use Rattle.std.specs.Int.{w64}
use Rattle.std.proofs.lemmas.Int.{to_z-of_z}
use Rattle.std.proofs.lemmas.List.{get_or_read}
use Rattle.bl_whole.specs.Sums.{component}
use Rattle.bl_simplex.specs.Fractions.{Fraction, IsReduced}
use Rattle.bl_simplex.specs.Rationals.{fraction_at}
use Rattle.bl_licence.specs.Steps.{IsBetween}
use Rattle.bl_licence.proofs.Multiples.{zero_fraction}
use Rattle.bl_licence.proofs.fractional.are_in_range.Goals as goal
use Rattle.bl_licence.proofs.fractional.are_in_range.Goals.{After-is_in_range}

range_is : (c : After-is_in_range)
    → to_z w64 (of_z w64 c.minus-range.result) ≡ component c.args.problem.now.area.hi c.loop-j.j
    -ℤ component c.args.problem.now.area.lo c.loop-j.j
range_is c =
    let j = c.loop-j.j in
    let high : FitsSigned w64 (slice_index_or c.hi-hi.result.now j (pos 0)) = search rules in
    let low : FitsSigned w64 (slice_index_or c.lo-lo.result.now j (pos 0)) = search rules in
    let fits : FitsSigned w64 c.minus-range.result = search rules in
    to_z-of_z w64 _ fits ∙ c.minus-range.ensures
    ∙ ap (λ z. z -ℤ to_z w64 (of_z w64 (slice_index_or c.lo-lo.result.now j (pos 0)))) (to_z-of_z w64 _ high)
    ∙ ap (λ z. slice_index_or c.hi-hi.result.now j (pos 0) -ℤ z) (to_z-of_z w64 _ low)
    ∙ ap (λ xs. component xs j -ℤ component c.lo-lo.result.now j) c.hi-hi.ensures.value
    ∙ ap (λ xs. component c.args.problem.now.area.hi j -ℤ component xs j) c.lo-lo.ensures.value

distance_is : (c : After-is_in_range) → c.index-distances-j.result ≡ fraction_at c.args.distances.now c.loop-j.j
distance_is c = get_or_read c.args.distances.now c.loop-j.j c.index-distances-j.result c.loop-j-test.true
    c.index-distances-j.is zero_fraction

between_is : (c : After-is_in_range)
    → IsBetween (to_z w64 (of_z w64 c.minus-range.result)) c.index-distances-j.result
    ≡ IsBetween (component c.args.problem.now.area.hi c.loop-j.j -ℤ component c.args.problem.now.area.lo c.loop-j.j)
    (fraction_at c.args.distances.now c.loop-j.j)
between_is c = ap (λ r. IsBetween r c.index-distances-j.result) (range_is c)
    ∙ ap (IsBetween (component c.args.problem.now.area.hi c.loop-j.j
    -ℤ component c.args.problem.now.area.lo c.loop-j.j)) (distance_is c)

pub loop-j-preserved : goal.loop-j-preserved
loop-j-preserved c =
    let now = c.is_in_range.ensures.value.0 (search rules) in
    record {
      between = below_more
          (λ k. IsBetween (component c.args.problem.now.area.hi k -ℤ component c.args.problem.now.area.lo k)
          (fraction_at c.args.distances.now k)) c.loop-j.j c.loop-j.invariant.between
          (subst (λ t. t) (between_is c.before) now);
      reduced = below_more (λ k. IsReduced (fraction_at c.args.distances.now k)) c.loop-j.j c.loop-j.invariant.reduced
          (subst IsReduced (distance_is c.before) c.is_in_range.ensures.reduced);
    }
