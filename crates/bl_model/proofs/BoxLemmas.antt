-- Boxes of a model, their halves, and the links of their points.
use Rattle.std.proofs.Common.{◌≡◌, ℕ, zero, suc, ◌+◌, ◌<◌, ◌≤◌, refl, sym, ◌∙◌, ap, arith, ◌⊎◌, inl, inr}
use Rattle.std.proofs.Common.{List, [], ◌∷◌, length, All}
use Rattle.std.specs.Prelude.{ℤ, pos, ◌+ℤ◌, slice_set, slice_index}
use Rattle.std.proofs.lemmas.Bool.{cases_eq, cases_lt}
use Rattle.std.proofs.lemmas.Int.{ints, by_lt_z}
use Rattle.std.proofs.lemmas.List.{ext_get_or, get_or-set_same, get_or-set_other, length-map, length-set}
use Rattle.std.proofs.lemmas.List.Elements.{Contains-get_or}
use Rattle.bl_limits.specs.declared.TheConstants.{MAX_NUMBER}
use Rattle.bl_whole.specs.Sums.{component}
use Rattle.bl_whole.specs.Within.{IsWithin, AreWithin}
use Rattle.bl_whole.proofs.WithinLemmas.{within_low, within_high, within_from_bounds, within_entry}
use Rattle.bl_terms.specs.Points.{Area, IsArea, InArea, IsWithinArea, IsOnePoint, Fixes, values_at}
use Rattle.bl_terms.specs.Programs.{Program, IsProgram, InBox, columns, root, link_of}
use Rattle.bl_terms.specs.Responses.{IsLink}
use Rattle.bl_terms.specs.Trees.{BareNode, IsTree, Leaf, Split, CanSplit, low_half, high_half, point_count, area_at}
use Rattle.bl_terms.proofs.PlaceLemmas.{values_at-entry}
use Rattle.bl_terms.proofs.PointLemmas.{point_of_part}
use Rattle.bl_terms.proofs.TreeLemmas.{each_point_in_one_leaf, leaves_are_parts, point_count-split}
use Rattle.bl_terms.proofs.TreeLemmas.{point_count-positive}
use Rattle.bl_model.specs.Boxes.{IsBox}
use Rattle.bl_model.specs.View.{IsModel}

-- ---- points of a box

-- the least numbers of a box are a point of it
pub low_point : (a : Area) → IsArea a → InArea a a.lo
low_point a g = record { columns = refl; least = λ k b. omega (arith, ints); most = g.ordered }

-- a point's number in a column that the box fixes
fixed_number : (a : Area) (z : List ℤ) (k : ℕ) → InArea a z → k < length a.lo → component a.lo k ≡ component a.hi k
    → component z k ≡ component a.lo k
fixed_number a z k inside b e = let h = inside.least k b in let g = inside.most k b in omega (arith, ints)

-- a box of one point has no other than its least numbers
pub one_point : (a : Area) (z : List ℤ) → IsOnePoint a → InArea a z → z ≡ a.lo
one_point a z one inside =
    ext_get_or (pos 0) z a.lo inside.columns
    (λ k b. let at : k < length a.lo = let e = inside.columns in omega arith in
    fixed_number a z k inside at (one.fixed k at))

-- ---- halves

-- the tree that splits a box once
abbrev split_once : ℕ → ℤ → List (BareNode (Unit {0}))
split_once j v = Split j v tt ∷ Leaf tt ∷ Leaf tt ∷ []

is_split_once : (a : Area) (j : ℕ) (v : ℤ) → CanSplit a j v → IsTree (split_once j v) a
is_split_once a j v can = ((can, tt), (tt, (tt, tt)))

-- each half is a box
pub low_half-area : (a : Area) (j : ℕ) (v : ℤ) → CanSplit a j v → IsArea a → IsArea (low_half a j v)
low_half-area a j v can g = (leaves_are_parts (split_once j v) a 0 (is_split_once a j v can) g (omega arith)).0

pub high_half-area : (a : Area) (j : ℕ) (v : ℤ) → CanSplit a j v → IsArea a → IsArea (high_half a j v)
high_half-area a j v can g = (leaves_are_parts (split_once j v) a 1 (is_split_once a j v can) g (omega arith)).0

-- and lies within the box
pub low_half-within : (a : Area) (j : ℕ) (v : ℤ) → CanSplit a j v → IsArea a → IsWithinArea (low_half a j v) a
low_half-within a j v can g = (leaves_are_parts (split_once j v) a 0 (is_split_once a j v can) g (omega arith)).1

pub high_half-within : (a : Area) (j : ℕ) (v : ℤ) → CanSplit a j v → IsArea a → IsWithinArea (high_half a j v) a
high_half-within a j v can g = (leaves_are_parts (split_once j v) a 1 (is_split_once a j v can) g (omega arith)).1

-- so its points are points of the box
pub from_low_half : (a : Area) (j : ℕ) (v : ℤ) (z : List ℤ) → CanSplit a j v → IsArea a → InArea (low_half a j v) z
    → InArea a z
from_low_half a j v z can g inside = point_of_part (low_half-within a j v can g) inside

pub from_high_half : (a : Area) (j : ℕ) (v : ℤ) (z : List ℤ) → CanSplit a j v → IsArea a → InArea (high_half a j v) z
    → InArea a z
from_high_half a j v z can g inside = point_of_part (high_half-within a j v can g) inside

-- a point of the box lies in exactly one half
pub in_one_half : (a : Area) (j : ℕ) (v : ℤ) (z : List ℤ) → CanSplit a j v → IsArea a → InArea a z
    → (InArea (low_half a j v) z × ¬ InArea (high_half a j v) z)
    ⊎ (InArea (high_half a j v) z × ¬ InArea (low_half a j v) z)
in_one_half a j v z can g inside =
    let r = each_point_in_one_leaf (split_once j v) a z (is_split_once a j v can) g.sides inside in
    by r.0 r.1 r.2 (r.3 0 (omega arith)) (r.3 1 (omega arith))
  where
    by : (i : ℕ) → i < 2 → InArea (area_at (low_half a j v ∷ high_half a j v ∷ []) i) z
        → (InArea (low_half a j v) z → 0 ≡ i) → (InArea (high_half a j v) z → 1 ≡ i)
        → (InArea (low_half a j v) z × ¬ InArea (high_half a j v) z)
        ⊎ (InArea (high_half a j v) z × ¬ InArea (low_half a j v) z)
    by zero b h low high = inl (h, λ other. let e = high other in omega arith)
    by (suc zero) b h low high = inr (h, λ other. let e = low other in omega arith)
    by (suc (suc i)) b h low high = absurd (omega arith)

-- the halves share out the points of the box
pub halves-point_count : (a : Area) (j : ℕ) (v : ℤ) → CanSplit a j v → IsArea a
    → point_count (low_half a j v) + point_count (high_half a j v) ≡ point_count a
halves-point_count a j v can g = point_count-split a j v can g

-- a box of more than one point has two
pub two_points : (a : Area) → IsArea a → ¬ IsOnePoint a → 2 ≤ point_count a
two_points a g more =
    elim (cases_lt (point_count a) 2) [
      | inl few ↦ absurd (more (record {
        fixed = λ j b. by_lt_z (component a.lo j) (component a.hi j)
            (λ open_range.
            let can : CanSplit a j (component a.lo j) =
            record { column = b; least = omega (arith, ints); below = open_range } in
            let low =
            point_count-positive (low_half a j (component a.lo j)) (low_half-area a j (component a.lo j) can g) in
            let high = point_count-positive (high_half a j (component a.lo j))
            (high_half-area a j (component a.lo j) can g) in
            let both = point_count-split a j (component a.lo j) can g in
            absurd (omega arith))
            (λ h. let o = g.ordered j b in omega (arith, ints));
      }))
      | inr enough ↦ omega arith
    ]

-- small numbers stay small with another one in a column
set_within : (m : ℕ) (xs : List ℤ) (j : ℕ) (x : ℤ) → AreWithin m xs → IsWithin m x → AreWithin m (slice_set xs j x)
set_within m xs j x h small = record {
  each = λ k b.
      let at : k < length xs = rw length-set at b in
      elim (cases_eq k j) [
        | inl same ↦
            let here : j < length xs = omega arith in
            let e : component (slice_set xs j x) k ≡ x =
            ap (λ i. component (slice_set xs j x) i) same ∙ get_or-set_same xs j x (pos 0) here in
            rw e small
        | inr other ↦ rw (get_or-set_other xs j k x (pos 0) other) (h.each k at)
      ];
}

-- the halves of a box within the limits are within them
pub low_half-box : (a : Area) (j : ℕ) (v : ℤ) → CanSplit a j v → IsBox a → IsBox (low_half a j v)
low_half-box a j v can is =
    let low = within_low (within_entry is.lower_bounds j) in
    let high = within_high (within_entry is.upper_bounds j) in
    let least = can.least in
    let below = can.below in
    record {
      area = low_half-area a j v can is.area;
      few = is.few;
      lower_bounds = is.lower_bounds;
      upper_bounds =
          set_within MAX_NUMBER a.hi j v is.upper_bounds
          (within_from_bounds MAX_NUMBER v (omega (arith, ints)) (omega (arith, ints)));
    }

pub high_half-box : (a : Area) (j : ℕ) (v : ℤ) → CanSplit a j v → IsBox a → IsBox (high_half a j v)
high_half-box a j v can is =
    let low = within_low (within_entry is.lower_bounds j) in
    let high = within_high (within_entry is.upper_bounds j) in
    let least = can.least in
    let below = can.below in
    record {
      area = high_half-area a j v can is.area;
      few = rw length-set is.few;
      lower_bounds =
          set_within MAX_NUMBER a.lo j (v +ℤ pos 1) is.lower_bounds
          (within_from_bounds MAX_NUMBER (v +ℤ pos 1) (omega (arith, ints)) (omega (arith, ints)));
      upper_bounds = is.upper_bounds;
    }

-- ---- the box of a model

pub root_box : (p : Program) → IsModel p → IsBox (root p)
root_box p m = record {
  area = m.sound.box;
  few = m.limits.few_columns;
  lower_bounds = record { each = λ k _. m.limits.lower_bounds k };
  upper_bounds = record { each = λ k _. m.limits.upper_bounds k };
}

-- ---- links

-- the linking columns are columns
pub links_below : (p : Program) → IsProgram p → All (λ k. k < columns p) p.links
links_below p g k d b = ((g.linking.exact _).0 (Contains-get_or p.links k d b)).0.column

link_below : (p : Program) (j : ℕ) → IsProgram p → j < length p.links → slice_index p.links j < columns p
link_below p j g b = links_below p g j 0 b

-- the link of a point of the box
pub point_link : (p : Program) (z : List ℤ) → IsProgram p → InBox p z → IsLink p (link_of p z)
point_link p z g inside = record {
  count = length-map p.links (λ k. component z k);
  least = λ j b. rw (values_at-entry z p.links j b) (inside.least (slice_index p.links j) (link_below p j g b));
  most = λ j b. rw (values_at-entry z p.links j b) (inside.most (slice_index p.links j) (link_below p j g b));
}

-- the least numbers of a box on the linking columns are a link
pub box_link : (p : Program) (a : Area) → IsProgram p → IsArea a → IsWithinArea a (root p)
    → IsLink p (values_at a.lo p.links)
box_link p a g area part = point_link p a.lo g (point_of_part part (low_point a area))

-- where a box fixes the linking columns, they are the link of each of its points
pub link_of_box : (p : Program) (a : Area) (z : List ℤ) → IsProgram p → IsWithinArea a (root p) → Fixes a p.links
    → InArea a z → link_of p z ≡ values_at a.lo p.links
link_of_box p a z g part fixes inside =
    ext_get_or (pos 0) (link_of p z) (values_at a.lo p.links)
    (length-map p.links (λ k. component z k) ∙ sym (length-map p.links (λ k. component a.lo k)))
    (λ j b.
    let at : j < length p.links = rw length-map at b in
    let below : slice_index p.links j < length a.lo =
    let e = part.columns in let c = link_below p j g at in omega arith in
    values_at-entry z p.links j at
    ∙ fixed_number a z (slice_index p.links j) inside below (fixes.fixed j at)
    ∙ sym (values_at-entry a.lo p.links j at))
