-- Points of a part of the follower's box as responses, and their costs.
use Rattle.std.proofs.Common.{◌≡◌, ◌<◌, ◌^◌, List, length, refl, sym, subst, arith}
use Rattle.std.specs.Prelude.{ℤ, pos, ◌+ℤ◌, Option, Some, None, FitsSigned}
use Rattle.std.specs.Int.{w64}
use Rattle.std.proofs.lemmas.Int.{ints}
use Rattle.bl_limits.specs.declared.TheConstants.{MAX_NUMBER}
use Rattle.bl_whole.specs.Sums.{component, dot}
use Rattle.bl_whole.specs.Within.{AreWithin}
use Rattle.bl_whole.proofs.WithinLemmas.{within_entry, within_high, within_low, within_from_bounds, dots_fit}
use Rattle.bl_terms.specs.Points.{Area, InArea}
use Rattle.bl_terms.specs.Bounds.{Problem, Fits, IsPoint, over}
use Rattle.bl_terms.proofs.PointLemmas.{point_of_part}
use Rattle.bl_terms.proofs.TestLemmas.{pos-unsigned_abs}
use Rattle.bl_bound.specs.Plain.{IsBetterPoint, CostsLess}
use Rattle.bl_point.proofs.Inside.{inside_within}
use Rattle.bl_fproof.specs.Entries.{IsPointOfCost}
use Rattle.bl_fproof.specs.Stacks.{IsPart}
use Rattle.bl_follower_tree.specs.Growth.{IsLowered}
use Rattle.bl_follower_tree.specs.Licences.{IsReached}
use Rattle.bl_follower.specs.declared.response.Response.{Response}
use Rattle.bl_follower.specs.Search.{cutoff_of, IsBestSoFar, IsLowerBest, height}

-- the cost of a point fits 64 bits
pub cost_fits : (q : Problem) (z : List ℤ) → Fits q → InArea q.area z → FitsSigned w64 (dot q.cost z)
cost_fits q z f inside =
    let few = f.few_columns in
    let size = f.shape.cost_columns in
    let fits = dots_fit w64 f.costs (inside_within q z f inside) (omega arith) in
    fits.each (length q.cost) (omega arith)

-- the numbers of a part are small
pub part_high_within : (q : Problem) (a : Area) → IsPart q a → AreWithin MAX_NUMBER a.hi
part_high_within q a part = record {
  each = λ k l.
      let sides = part.area.sides in
      let columns = part.within.columns in
      let order = part.area.ordered k (omega arith) in
      let least = part.within.least k (omega arith) in
      let most = part.within.most k (omega arith) in
      let low = within_low (within_entry part.fits.lower_bounds k) in
      let high = within_high (within_entry part.fits.upper_bounds k) in
      within_from_bounds MAX_NUMBER (component a.hi k) (omega (arith, ints)) (omega (arith, ints));
}

-- ---- a better response

-- a point of a part below the cutoff is a response of its cost
pub point_of_whole : (q : Problem) (a : Area) (z : List ℤ) → IsPart q a → IsPoint (over q a) z → IsPoint q z
point_of_whole q a z part p = record { inside = point_of_part part.within p.inside; rows = p.rows }

pub lowered_more : (u v w : Option ℤ) → IsLowered u v → IsLowered v w → IsLowered u w
lowered_more None v w g h = tt
lowered_more (Some x) None w g h = absurd g
lowered_more (Some x) (Some y) None g h = absurd h
lowered_more (Some x) (Some y) (Some z) g h = omega (arith, ints)

pub lowered_itself : (u : Option ℤ) → IsLowered u u
lowered_itself None = tt
lowered_itself (Some x) = omega (arith, ints)

lowered_by_less : (u : Option ℤ) (v : ℤ) → CostsLess u v → IsLowered u (Some v)
lowered_by_less None v h = tt
lowered_by_less (Some x) v h = omega (arith, ints)

pub same_best : (q : Problem) (best : Option Response) → IsBestSoFar q best → IsLowerBest q best best
same_best q best h = record { best = h; lowered = lowered_itself (cutoff_of best) }

pub better_best : (q : Problem) (a : Area) (first best : Option Response) (r : Response) (z : List ℤ) → IsPart q a
    → IsLowerBest q first best → IsBetterPoint (over q a) (cutoff_of best) z
    → r ≡ record { point = z; value = dot q.cost z } → IsLowerBest q first (Some r)
better_best q a first best r z part so_far better e =
    let made : Response = record { point = z; value = dot q.cost z } in
    subst (λ r. IsLowerBest q first (Some r)) (sym e) (record {
      best = (point_of_whole q a z part better.point, refl);
      lowered = lowered_more (cutoff_of first) (cutoff_of best) (Some (dot q.cost z)) so_far.lowered
          (lowered_by_less (cutoff_of best) (dot q.cost z) better.cost);
    })

-- the cutoff is the cost of a point
pub best_reached : (q : Problem) (best : Option Response) → IsBestSoFar q best → IsReached q (cutoff_of best)
best_reached q None h = tt
best_reached q (Some r) h = (r.point, h)

-- ---- how far the cutoff can fall

height_by : (v : ℤ) → FitsSigned w64 v → pos (height (Some v)) ≡ v +ℤ pos (2 ^ 63)
height_by v f = pos-unsigned_abs (v +ℤ pos (2 ^ 63)) (omega (arith, ints))

value_fits : (q : Problem) (z : List ℤ) (v : ℤ) → Fits q → IsPointOfCost q z v → FitsSigned w64 v
value_fits q z v f h = subst (λ x. FitsSigned w64 x) h.1 (cost_fits q z f h.0.inside)

height_falls : (q : Problem) (best : Option Response) (v : ℤ) → Fits q → IsBestSoFar q best → FitsSigned w64 v
    → CostsLess (cutoff_of best) v → height (Some v) < height (cutoff_of best)
height_falls q None v f h fits less = let new = height_by v fits in omega (arith, ints)
height_falls q (Some r) v f h fits less =
    let new = height_by v fits in
    let old = height_by r.value (value_fits q r.point r.value f h) in
    omega (arith, ints)
