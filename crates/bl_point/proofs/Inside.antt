-- Points of a box are small.
use Rattle.std.proofs.Common.{◌≡◌, ℕ, ◌^◌, ◌≤◌, List, length, ℤ, arith}
use Rattle.std.specs.Int.{w128}
use Rattle.std.proofs.lemmas.Int.{ints}
use Rattle.bl_limits.specs.declared.TheConstants.{MAX_NUMBER}
use Rattle.bl_whole.specs.Sums.{component}
use Rattle.bl_whole.specs.Within.{AreWithin, PartialDotsFit}
use Rattle.bl_whole.proofs.WithinLemmas.{within_entry, within_high, within_low, within_from_bounds, dots_fit}
use Rattle.bl_terms.specs.Points.{InArea}
use Rattle.bl_terms.specs.Bounds.{Problem, Fits}

pub inside_within : (q : Problem) (z : List ℤ) → Fits q → InArea q.area z → AreWithin MAX_NUMBER z
inside_within q z f inside = record {
  each = λ k l.
      let e = inside.columns in
      let least = inside.least k (omega arith) in
      let most = inside.most k (omega arith) in
      let low = within_low (within_entry f.lower_bounds k) in
      let high = within_high (within_entry f.upper_bounds k) in
      within_from_bounds MAX_NUMBER (component z k) (omega (arith, ints)) (omega (arith, ints));
}

-- where the coefficients are small enough, every part of their product with a point of the box fits 128 bits
pub inside_dots_fit : (q : Problem) (cs z : List ℤ) (m : ℕ) → Fits q → InArea q.area z → AreWithin m cs
    → length cs ≡ length q.area.lo → m ≤ 2 ^ 36 → PartialDotsFit w128 cs z
inside_dots_fit q cs z m f inside small size most =
    let few = f.few_columns in
    dots_fit w128 {m = 2 ^ 36} (more small most) (inside_within q z f inside) (omega arith)
  where
    more : AreWithin m cs → m ≤ 2 ^ 36 → AreWithin (2 ^ 36) cs
    more a b = record { each = λ k l. record { magnitude = let h = (a.each k l).magnitude in omega arith } }
