-- The bound of dual multipliers is reached at a corner of the box.
use Rattle.std.proofs.Common.{◌≡◌, ℕ, ◌<◌, Bool, true, false, cond, ℤ, pos, ◌+ℤ◌, ◌-ℤ◌, ◌*ℤ◌, ◌≤ℤ◌, List, length, map}
use Rattle.std.proofs.Common.{refl, sym, ap, ◌∙◌, subst, arith}
use Rattle.std.specs.Prelude.{int_lt}
use Rattle.std.specs.List.{range_with_len}
use Rattle.std.specs.Int.Signed.{≤ℤ_refl}
use Rattle.std.proofs.Math.IntN.{*ℤ_comm}
use Rattle.std.proofs.lemmas.Int.{ints}
use Rattle.std.proofs.lemmas.List.FromFn.{length-map-range_with_len, get_or-map-range_with_len}
use Rattle.bl_whole.specs.Sums.{component, sum_below, dot}
use Rattle.bl_whole.proofs.Products.{*ℤ_assoc, +ℤ-*ℤ, *ℤ--ℤ}
use Rattle.bl_whole.proofs.SumLemmas.{sum_below-agree, sum_below-add, sum_below-scale, sum_below-exchange}
use Rattle.bl_terms.specs.Points.{InArea}
use Rattle.bl_terms.specs.Bounds.{Problem, linear_at, IsProblem, Multipliers, reduced_cost, least_term}
use Rattle.bl_terms.specs.Bounds.{rhs_sum, dual_bound}
use Rattle.bl_terms.proofs.BoundLemmas.{weighted}
use Rattle.bl_duality.proofs.PointValues.{slack, sum_of_differences}

-- the end of column j's range at which its term is least
abbrev pub corner_at : Problem → Multipliers → ℕ → ℤ
corner_at q w j = cond (int_lt (reduced_cost q w j) (pos 0)) (component q.area.hi j) (component q.area.lo j)

abbrev pub corner : Problem → Multipliers → List ℤ
corner q w = map (corner_at q w) (range_with_len 0 (length q.area.lo))

corner_component : (q : Problem) (w : Multipliers) (j : ℕ) → j < length q.area.lo
    → component (corner q w) j ≡ corner_at q w j
corner_component q w j h =
    get_or-map-range_with_len (corner_at q w) 0 (length q.area.lo) j j (pos 0) h (omega arith)

either_end : (t : Bool) (lo hi : ℤ) → lo ≤ℤ hi → (lo ≤ℤ cond t hi lo) × (cond t hi lo ≤ℤ hi)
either_end true lo hi h = (h, ≤ℤ_refl hi)
either_end false lo hi h = (≤ℤ_refl lo, h)

pub corner_inside : (q : Problem) (w : Multipliers) → IsProblem q → InArea q.area (corner q w)
corner_inside q w shape = record {
  columns = length-map-range_with_len (corner_at q w) 0 (length q.area.lo);
  least = λ j h. subst (λ x. component q.area.lo j ≤ℤ x) (sym (corner_component q w j h))
      (either_end (int_lt (reduced_cost q w j) (pos 0)) _ _ (shape.box.ordered j h)).0;
  most = λ j h. subst (λ x. x ≤ℤ component q.area.hi j) (sym (corner_component q w j h))
      (either_end (int_lt (reduced_cost q w j) (pos 0)) _ _ (shape.box.ordered j h)).1;
}

reached_at_end : (t : Bool) (a lo hi : ℤ) → cond t (a *ℤ hi) (a *ℤ lo) ≡ a *ℤ cond t hi lo
reached_at_end true a lo hi = refl
reached_at_end false a lo hi = refl

least_at_corner : (q : Problem) (w : Multipliers) (j : ℕ) → j < length q.area.lo
    → least_term q w j ≡ reduced_cost q w j *ℤ component (corner q w) j
least_at_corner q w j h =
    reached_at_end (int_lt (reduced_cost q w j) (pos 0)) (reduced_cost q w j) (component q.area.lo j)
    (component q.area.hi j)
    ∙ ap (λ x. reduced_cost q w j *ℤ x) (sym (corner_component q w j h))

-- the weighted slacks at a point
abbrev pub slack_sum : Problem → Multipliers → List ℤ → ℤ
slack_sum q w z = sum_below (length q.rows) (λ i. component w.mult i *ℤ slack q z i)

slacks_parted : (q : Problem) (w : Multipliers) (z : List ℤ) → slack_sum q w z
    ≡ rhs_sum q w -ℤ sum_below (length q.rows) (λ i. component w.mult i *ℤ dot (linear_at q.rows i).coef z)
slacks_parted q w z =
    let m = length q.rows in
    let f : ℕ → ℤ = λ i. component w.mult i *ℤ (linear_at q.rows i).rhs in
    let g : ℕ → ℤ = λ i. component w.mult i *ℤ dot (linear_at q.rows i).coef z in
    sum_below-agree m (λ i. component w.mult i *ℤ slack q z i) (λ i. f i -ℤ g i)
    (λ i b. *ℤ--ℤ (component w.mult i) (linear_at q.rows i).rhs (dot (linear_at q.rows i).coef z))
    ∙ sum_of_differences m f g

-- the bound is the weighted cost at the corner less the weighted slacks there
pub bound_at_corner : (q : Problem) (w : Multipliers) → IsProblem q
    → dual_bound q w ≡ w.den *ℤ dot q.cost (corner q w) -ℤ slack_sum q w (corner q w)
bound_at_corner q w shape =
    let n = length q.area.lo in
    let least = sum_below-agree n (least_term q w) (λ j. reduced_cost q w j *ℤ component (corner q w) j)
    (λ j h. least_at_corner q w j h) in
    let e = weighted q w (corner q w) shape in
    let s = slacks_parted q w (corner q w) in
    omega (arith, ints)
