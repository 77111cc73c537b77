-- Trees over boxes: their leaves share out the points of the box.
use Rattle.std.proofs.Common.{◌≡◌, ◌≢◌, ℕ, zero, suc, ◌+◌, ◌*◌, ◌<◌, ◌≤◌, refl, sym, ◌∙◌, subst, arith, Bool, true}
use Rattle.std.proofs.Common.{false, ◌&&◌, List, [], ◌∷◌, length, ◌⊎◌, inl, inr}
use Rattle.std.specs.Prelude.{ℤ, pos, ◌+ℤ◌, ◌-ℤ◌, ◌≤ℤ◌, ◌<ℤ◌, slice_set, nat_lt, int_le, int_lt, IsTrue}
use Rattle.std.proofs.lemmas.Int.{ints, by_lt_z}
use Rattle.std.specs.Bool.{Decides}
use Rattle.std.proofs.lemmas.Bool.{cases_eq, cases_lt, true≢false}
use Rattle.std.proofs.lemmas.Bool.Decides.{Decides-and, Decides-ltb, Decides-like}
use Rattle.std.proofs.lemmas.List.{get_or-set_same, get_or-set_other, length-set}
use Rattle.std.proofs.lemmas.Nat.{mul-le}
use Rattle.std.proofs.Math.Nat.{add-mul, mul-add}
use Rattle.bl_whole.specs.Sums.{component}
use Rattle.bl_terms.proofs.TestLemmas.{pos-unsigned_abs, Decides-self, Decides-int_le, Decides-int_lt}
use Rattle.bl_terms.proofs.PointLemmas.{part_of_itself, part_of_part}
use Rattle.bl_terms.specs.Points.{Area, IsArea, InArea, IsWithinArea}
use Rattle.bl_terms.specs.Trees.{Node, Leaf, Split, Anything, low_half, high_half, CanSplit, Covers, FailsFirst}
use Rattle.bl_terms.specs.Trees.{CoversOrFails, leaf_boxes, area_at, product_below, width_at, point_count}
use Rattle.bl_terms.specs.Trees.{EachPointInOneLeaf, LeavesAreParts, LeavesAtMostPoints}

-- ---- the halves of a box

-- a point of the box is a point of the half that its number in column j says
in_low : (a : Area) (j : ℕ) (v : ℤ) (z : List ℤ) → CanSplit a j v → length a.hi ≡ length a.lo → InArea a z
    → component z j ≤ℤ v → InArea (low_half a j v) z
in_low a j v z s e inside h = record {
  columns = inside.columns;
  least = inside.least;
  most = λ k b. elim (cases_eq k j) [
    | inl same ↦ let P : ℕ → Type 0 = λ x. component z x ≤ℤ component (slice_set a.hi j v) x in
        subst P (sym same) (rw (get_or-set_same a.hi j v (pos 0) (let c = s.column in omega arith)) h)
    | inr other ↦ rw (get_or-set_other a.hi j k v (pos 0) other) (inside.most k b)
  ];
}

in_high : (a : Area) (j : ℕ) (v : ℤ) (z : List ℤ) → CanSplit a j v → InArea a z → v <ℤ component z j
    → InArea (high_half a j v) z
in_high a j v z s inside h = record {
  columns = inside.columns ∙ sym (length-set a.lo j (v +ℤ pos 1));
  least = λ k b. elim (cases_eq k j) [
    | inl same ↦ let P : ℕ → Type 0 = λ x. component (slice_set a.lo j (v +ℤ pos 1)) x ≤ℤ component z x in
        subst P (sym same) (rw (get_or-set_same a.lo j (v +ℤ pos 1) (pos 0) s.column) (omega (arith, ints)))
    | inr other ↦ rw (get_or-set_other a.lo j k (v +ℤ pos 1) (pos 0) other) (inside.least k (rw length-set at b))
  ];
  most = λ k b. inside.most k (rw length-set at b);
}

-- a point of a half has a number on its side, and is a point of the box
low_side : (a : Area) (j : ℕ) (v : ℤ) (z : List ℤ) → CanSplit a j v → length a.hi ≡ length a.lo
    → InArea (low_half a j v) z → component z j ≤ℤ v
low_side a j v z s e inside =
    let h = inside.most j s.column in
    rw (get_or-set_same a.hi j v (pos 0) (let c = s.column in omega arith)) at h

high_side : (a : Area) (j : ℕ) (v : ℤ) (z : List ℤ) → CanSplit a j v → InArea (high_half a j v) z → v <ℤ component z j
high_side a j v z s inside =
    let h = inside.least j (rw length-set s.column) in
    let h' = rw (get_or-set_same a.lo j (v +ℤ pos 1) (pos 0) s.column) at h in
    omega (arith, ints)

from_low : (a : Area) (j : ℕ) (v : ℤ) (z : List ℤ) → CanSplit a j v → length a.hi ≡ length a.lo
    → InArea (low_half a j v) z → InArea a z
from_low a j v z s e inside = record {
  columns = inside.columns;
  least = inside.least;
  most = λ k b. elim (cases_eq k j) [
    | inl same ↦ let P : ℕ → Type 0 = λ x. component z x ≤ℤ component a.hi x in
        let h = low_side a j v z s e inside in let l = s.below in subst P (sym same) (omega (arith, ints))
    | inr other ↦ let h = inside.most k b in rw (get_or-set_other a.hi j k v (pos 0) other) at h
  ];
}

from_high : (a : Area) (j : ℕ) (v : ℤ) (z : List ℤ) → CanSplit a j v → InArea (high_half a j v) z → InArea a z
from_high a j v z s inside = record {
  columns = inside.columns ∙ length-set a.lo j (v +ℤ pos 1);
  least = λ k b. elim (cases_eq k j) [
    | inl same ↦ let P : ℕ → Type 0 = λ x. component a.lo x ≤ℤ component z x in
        let h = high_side a j v z s inside in let l = s.least in subst P (sym same) (omega (arith, ints))
    | inr other ↦ let h = inside.least k (rw length-set b) in
        rw (get_or-set_other a.lo j k (v +ℤ pos 1) (pos 0) other) at h
  ];
  most = λ k b. inside.most k (rw length-set b);
}

-- ---- each point in one leaf

-- both sides of each box have as many numbers
abbrev HaveSides : List Area → Type 0
HaveSides [] = Unit {0}
HaveSides (a ∷ rest) = (length a.hi ≡ length a.lo) × HaveSides rest

halves_have_sides : (a : Area) (j : ℕ) (v : ℤ) (rest : List Area) → HaveSides (a ∷ rest)
    → HaveSides (low_half a j v ∷ high_half a j v ∷ rest)
halves_have_sides a j v rest h = (length-set a.hi j v ∙ h.0, (h.0 ∙ sym (length-set a.lo j (v +ℤ pos 1)), h.1))

-- a point of a box of the stack lies in a box of a leaf
some_leaf : {S L : Type 0} (nodes : List (Node S L)) (stack : List Area) (z : List ℤ) → HaveSides stack
    → Covers Anything Anything nodes stack
    → (m : ℕ) → m < length stack → InArea (area_at stack m) z
    → (i : ℕ) × (i < length (leaf_boxes nodes stack)) × InArea (area_at (leaf_boxes nodes stack) i) z
some_leaf [] [] z sides covers m b inside = absurd (omega arith)
some_leaf [] (a ∷ stack) z sides covers m b inside = absurd covers
some_leaf (Leaf x ∷ ns) [] z sides covers m b inside = absurd covers
some_leaf (Split j v s ∷ ns) [] z sides covers m b inside = absurd covers
some_leaf (Leaf x ∷ ns) (a ∷ stack) z sides covers zero b inside = (0, omega arith, inside)
some_leaf (Leaf x ∷ ns) (a ∷ stack) z sides covers (suc m) b inside =
    let r = some_leaf ns stack z sides.1 covers.1 m (omega arith) inside in
    (suc r.0, omega (arith, r.1), r.2)
some_leaf (Split j v s ∷ ns) (a ∷ stack) z sides covers zero b inside =
    by_lt_z v (component z j)
    (λ h. some_leaf ns (low_half a j v ∷ high_half a j v ∷ stack) z (halves_have_sides a j v stack sides) covers.1 1
    (omega arith) (in_high a j v z covers.0.0 inside h))
    (λ h. some_leaf ns (low_half a j v ∷ high_half a j v ∷ stack) z (halves_have_sides a j v stack sides) covers.1 0
    (omega arith) (in_low a j v z covers.0.0 sides.0 inside h))
some_leaf (Split j v s ∷ ns) (a ∷ stack) z sides covers (suc m) b inside =
    some_leaf ns (low_half a j v ∷ high_half a j v ∷ stack) z (halves_have_sides a j v stack sides) covers.1
    (suc (suc m)) (omega arith) inside

-- a point of a leaf's box lies in a box of the stack
some_box : {S L : Type 0} (nodes : List (Node S L)) (stack : List Area) (z : List ℤ) → HaveSides stack
    → Covers Anything Anything nodes stack
    → (i : ℕ) → i < length (leaf_boxes nodes stack) → InArea (area_at (leaf_boxes nodes stack) i) z
    → (m : ℕ) × (m < length stack) × InArea (area_at stack m) z
some_box [] stack z sides covers i b inside = absurd (omega arith)
some_box (n ∷ ns) [] z sides covers i b inside = absurd (omega arith)
some_box (Leaf x ∷ ns) (a ∷ stack) z sides covers zero b inside = (0, omega arith, inside)
some_box (Leaf x ∷ ns) (a ∷ stack) z sides covers (suc i) b inside =
    let r = some_box ns stack z sides.1 covers.1 i (omega arith) inside in
    (suc r.0, omega (arith, r.1), r.2)
some_box (Split j v s ∷ ns) (a ∷ stack) z sides covers i b inside =
    by (some_box ns (low_half a j v ∷ high_half a j v ∷ stack) z
    (halves_have_sides a j v stack sides) covers.1 i b inside)
  where
    by : (m : ℕ) × (m < length (low_half a j v ∷ high_half a j v ∷ stack))
        × InArea (area_at (low_half a j v ∷ high_half a j v ∷ stack) m) z
        → (m : ℕ) × (m < length (a ∷ stack)) × InArea (area_at (a ∷ stack) m) z
    by (zero, c, h) = (0, omega arith, from_low a j v z covers.0.0 sides.0 h)
    by (suc zero, c, h) = (0, omega arith, from_high a j v z covers.0.0 h)
    by (suc (suc m), c, h) = (suc m, omega arith, h)

-- z lies in one box of the list at most
abbrev InOneAtMost : List Area → List ℤ → Type 0
InOneAtMost boxes z = (i i' : ℕ) → i < length boxes → i' < length boxes → InArea (area_at boxes i) z
    → InArea (area_at boxes i') z → i ≡ i'

halves_apart : (a : Area) (j : ℕ) (v : ℤ) (stack : List Area) (z : List ℤ) → CanSplit a j v → length a.hi ≡ length a.lo
    → InOneAtMost (a ∷ stack) z
    → InOneAtMost (low_half a j v ∷ high_half a j v ∷ stack) z
halves_apart a j v stack z s e one zero zero b b' h h' = refl
halves_apart a j v stack z s e one zero (suc zero) b b' h h' =
    let l = low_side a j v z s e h in let g = high_side a j v z s h' in absurd (omega (arith, ints))
halves_apart a j v stack z s e one zero (suc (suc m)) b b' h h' =
    let q = one 0 (suc m) (omega arith) (omega arith) (from_low a j v z s e h) h' in absurd (omega arith)
halves_apart a j v stack z s e one (suc zero) zero b b' h h' =
    let l = low_side a j v z s e h' in let g = high_side a j v z s h in absurd (omega (arith, ints))
halves_apart a j v stack z s e one (suc zero) (suc zero) b b' h h' = refl
halves_apart a j v stack z s e one (suc zero) (suc (suc m)) b b' h h' =
    let q = one 0 (suc m) (omega arith) (omega arith) (from_high a j v z s h) h' in absurd (omega arith)
halves_apart a j v stack z s e one (suc (suc m)) zero b b' h h' =
    let q = one (suc m) 0 (omega arith) (omega arith) h (from_low a j v z s e h') in absurd (omega arith)
halves_apart a j v stack z s e one (suc (suc m)) (suc zero) b b' h h' =
    let q = one (suc m) 0 (omega arith) (omega arith) h (from_high a j v z s h') in absurd (omega arith)
halves_apart a j v stack z s e one (suc (suc m)) (suc (suc m')) b b' h h' =
    let q = one (suc m) (suc m') (omega arith) (omega arith) h h' in omega arith

one_leaf : {S L : Type 0} (nodes : List (Node S L)) (stack : List Area) (z : List ℤ) → HaveSides stack
    → Covers Anything Anything nodes stack
    → InOneAtMost stack z → InOneAtMost (leaf_boxes nodes stack) z
one_leaf [] stack z sides covers one i i' b b' h h' = absurd (omega arith)
one_leaf (n ∷ ns) [] z sides covers one i i' b b' h h' = absurd (omega arith)
one_leaf (Leaf x ∷ ns) (a ∷ stack) z sides covers one zero zero b b' h h' = refl
one_leaf (Leaf x ∷ ns) (a ∷ stack) z sides covers one zero (suc i') b b' h h' =
    let r = some_box ns stack z sides.1 covers.1 i' (omega arith) h' in
    let q = one 0 (suc r.0) (omega arith) (omega (arith, r.1)) h r.2 in
    absurd (omega arith)
one_leaf (Leaf x ∷ ns) (a ∷ stack) z sides covers one (suc i) zero b b' h h' =
    let r = some_box ns stack z sides.1 covers.1 i (omega arith) h in
    let q = one 0 (suc r.0) (omega arith) (omega (arith, r.1)) h' r.2 in
    absurd (omega arith)
one_leaf (Leaf x ∷ ns) (a ∷ stack) z sides covers one (suc i) (suc i') b b' h h' =
    let q = one_leaf ns stack z sides.1 covers.1
    (λ m m' c c' k k'. let e = one (suc m) (suc m') (omega arith) (omega arith) k k' in omega arith) i i' (omega arith)
    (omega arith) h h' in
    omega arith
one_leaf (Split j v s ∷ ns) (a ∷ stack) z sides covers one i i' b b' h h' =
    one_leaf ns (low_half a j v ∷ high_half a j v ∷ stack) z (halves_have_sides a j v stack sides) covers.1
    (halves_apart a j v stack z covers.0.0 sides.0 one) i i' b b' h h'

pub each_point_in_one_leaf : {S L : Type 0} → EachPointInOneLeaf S L
each_point_in_one_leaf nodes a z tree e inside =
    let r = some_leaf nodes (a ∷ []) z (e, tt) tree 0 (omega arith) inside in
    let one = one_leaf nodes (a ∷ []) z (e, tt) tree
    (λ m m' c c' h h'. omega arith) in
    (r.0, r.1, r.2, λ i' b h. one i' r.0 b r.1 h r.2)

-- ---- the boxes of leaves are parts

low_area : (a : Area) (j : ℕ) (v : ℤ) → CanSplit a j v → IsArea a → IsArea (low_half a j v)
low_area a j v s g = record {
  sides = length-set a.hi j v ∙ g.sides;
  ordered = λ k b. elim (cases_eq k j) [
    | inl same ↦ let P : ℕ → Type 0 = λ x. component a.lo x ≤ℤ component (slice_set a.hi j v) x in
        subst P (sym same) (rw
        (get_or-set_same a.hi j v (pos 0) (let c = s.column in let e = g.sides in omega arith)) s.least)
    | inr other ↦ rw (get_or-set_other a.hi j k v (pos 0) other) (g.ordered k b)
  ];
}

high_area : (a : Area) (j : ℕ) (v : ℤ) → CanSplit a j v → IsArea a → IsArea (high_half a j v)
high_area a j v s g = record {
  sides = g.sides ∙ sym (length-set a.lo j (v +ℤ pos 1));
  ordered = λ k b. elim (cases_eq k j) [
    | inl same ↦ let P : ℕ → Type 0 = λ x. component (slice_set a.lo j (v +ℤ pos 1)) x ≤ℤ component a.hi x in
        let h = s.below in
        subst P (sym same) (rw (get_or-set_same a.lo j (v +ℤ pos 1) (pos 0) s.column) (omega (arith, ints)))
    | inr other ↦ rw (get_or-set_other a.lo j k (v +ℤ pos 1) (pos 0) other) (g.ordered k (rw length-set at b))
  ];
}

abbrev AreAreas : List Area → Type 0
AreAreas [] = Unit {0}
AreAreas (a ∷ rest) = IsArea a × AreAreas rest

have_sides : (boxes : List Area) → AreAreas boxes → HaveSides boxes
have_sides [] g = tt
have_sides (a ∷ rest) g = (g.0.sides, have_sides rest g.1)

leaves_are_areas : {S L : Type 0} (nodes : List (Node S L)) (stack : List Area) → AreAreas stack
    → Covers Anything Anything nodes stack
    → (i : ℕ) → i < length (leaf_boxes nodes stack) → IsArea (area_at (leaf_boxes nodes stack) i)
leaves_are_areas [] stack g covers i b = absurd (omega arith)
leaves_are_areas (n ∷ ns) [] g covers i b = absurd (omega arith)
leaves_are_areas (Leaf x ∷ ns) (a ∷ stack) g covers zero b = g.0
leaves_are_areas (Leaf x ∷ ns) (a ∷ stack) g covers (suc i) b = leaves_are_areas ns stack g.1 covers.1 i (omega arith)
leaves_are_areas (Split j v s ∷ ns) (a ∷ stack) g covers i b =
    leaves_are_areas ns (low_half a j v ∷ high_half a j v ∷ stack)
    (low_area a j v covers.0.0 g.0, (high_area a j v covers.0.0 g.0, g.1)) covers.1 i b

low_part : (a : Area) (j : ℕ) (v : ℤ) → CanSplit a j v → IsArea a → IsWithinArea (low_half a j v) a
low_part a j v s g = record {
  columns = refl;
  least = λ k b. omega (arith, ints);
  most = λ k b. elim (cases_eq k j) [
    | inl same ↦ let P : ℕ → Type 0 = λ x. component (slice_set a.hi j v) x ≤ℤ component a.hi x in
        let l = s.below in
        subst P (sym same) (rw (get_or-set_same a.hi j v (pos 0) (let c = s.column in let e = g.sides in omega arith))
        (omega (arith, ints)))
    | inr other ↦ rw (get_or-set_other a.hi j k v (pos 0) other) (omega (arith, ints))
  ];
}

high_part : (a : Area) (j : ℕ) (v : ℤ) → CanSplit a j v → IsWithinArea (high_half a j v) a
high_part a j v s = record {
  columns = length-set a.lo j (v +ℤ pos 1);
  least = λ k b. elim (cases_eq k j) [
    | inl same ↦ let P : ℕ → Type 0 = λ x. component a.lo x ≤ℤ component (slice_set a.lo j (v +ℤ pos 1)) x in
        let l = s.least in
        subst P (sym same) (rw (get_or-set_same a.lo j (v +ℤ pos 1) (pos 0) s.column) (omega (arith, ints)))
    | inr other ↦ rw (get_or-set_other a.lo j k (v +ℤ pos 1) (pos 0) other) (omega (arith, ints))
  ];
  most = λ k b. omega (arith, ints);
}

-- each box lies within the outer one
abbrev AreWithinArea : List Area → Area → Type 0
AreWithinArea [] outer = Unit {0}
AreWithinArea (a ∷ rest) outer = IsWithinArea a outer × AreWithinArea rest outer

leaves_are_within : {S L : Type 0} (nodes : List (Node S L)) (stack : List Area) (outer : Area) → AreAreas stack
    → AreWithinArea stack outer
    → Covers Anything Anything nodes stack → (i : ℕ) → i < length (leaf_boxes nodes stack)
    → IsWithinArea (area_at (leaf_boxes nodes stack) i) outer
leaves_are_within [] stack outer g w covers i b = absurd (omega arith)
leaves_are_within (n ∷ ns) [] outer g w covers i b = absurd (omega arith)
leaves_are_within (Leaf x ∷ ns) (a ∷ stack) outer g w covers zero b = w.0
leaves_are_within (Leaf x ∷ ns) (a ∷ stack) outer g w covers (suc i) b =
    leaves_are_within ns stack outer g.1 w.1 covers.1 i (omega arith)
leaves_are_within (Split j v s ∷ ns) (a ∷ stack) outer g w covers i b =
    let can = covers.0.0 in
    leaves_are_within ns (low_half a j v ∷ high_half a j v ∷ stack) outer
    (low_area a j v can g.0, (high_area a j v can g.0, g.1))
    (part_of_part (low_part a j v can g.0) w.0, (part_of_part (high_part a j v can) w.0, w.1)) covers.1 i b

pub leaves_are_parts : {S L : Type 0} → LeavesAreParts S L
leaves_are_parts nodes a i tree g b = (
  leaves_are_areas nodes (a ∷ []) (g, tt) tree i b,
  leaves_are_within nodes (a ∷ []) a (g, tt) (part_of_itself a, tt) tree i b,
)

-- ---- what leaves show of their points is shown of the box

pub from_leaves : {S L : Type 0} (splits : Area → S → Type 0) (closes : Area → L → Type 0) (P : List ℤ → Type 0)
    → ((a : Area) (x : L) (z : List ℤ) → IsArea a → closes a x → InArea a z → P z)
    → (nodes : List (Node S L)) (stack : List Area) (z : List ℤ) → AreAreas stack → Covers splits closes nodes stack
    → (m : ℕ) → m < length stack → InArea (area_at stack m) z → P z
from_leaves splits closes P each [] [] z areas covers m b inside = absurd (omega arith)
from_leaves splits closes P each [] (a ∷ stack) z areas covers m b inside = absurd covers
from_leaves splits closes P each (Leaf x ∷ ns) [] z areas covers m b inside = absurd covers
from_leaves splits closes P each (Split j v s ∷ ns) [] z areas covers m b inside = absurd covers
from_leaves splits closes P each (Leaf x ∷ ns) (a ∷ stack) z areas covers zero b inside =
    each a x z areas.0 covers.0 inside
from_leaves splits closes P each (Leaf x ∷ ns) (a ∷ stack) z areas covers (suc m) b inside =
    from_leaves splits closes P each ns stack z areas.1 covers.1 m (omega arith) inside
from_leaves splits closes P each (Split j v s ∷ ns) (a ∷ stack) z areas covers zero b inside =
    by_lt_z v (component z j)
    (λ h. from_leaves splits closes P each ns (low_half a j v ∷ high_half a j v ∷ stack) z
    (low_area a j v covers.0.0 areas.0, (high_area a j v covers.0.0 areas.0, areas.1)) covers.1 1 (omega arith)
    (in_high a j v z covers.0.0 inside h))
    (λ h. from_leaves splits closes P each ns (low_half a j v ∷ high_half a j v ∷ stack) z
    (low_area a j v covers.0.0 areas.0, (high_area a j v covers.0.0 areas.0, areas.1)) covers.1 0 (omega arith)
    (in_low a j v z covers.0.0 areas.0.sides inside h))
from_leaves splits closes P each (Split j v s ∷ ns) (a ∷ stack) z areas covers (suc m) b inside =
    from_leaves splits closes P each ns (low_half a j v ∷ high_half a j v ∷ stack) z
    (low_area a j v covers.0.0 areas.0, (high_area a j v covers.0.0 areas.0, areas.1)) covers.1 (suc (suc m))
    (omega arith) inside

-- what every leaf of a tree over a box shows of its points holds of each point of the box
pub tree_shows : {S L : Type 0} (splits : Area → S → Type 0) (closes : Area → L → Type 0) (P : List ℤ → Type 0)
    → ((a : Area) (x : L) (z : List ℤ) → IsArea a → closes a x → InArea a z → P z)
    → (nodes : List (Node S L)) (a : Area) → IsArea a → Covers splits closes nodes (a ∷ []) → (z : List ℤ) → InArea a z
    → P z
tree_shows splits closes P each nodes a g covers z inside =
    from_leaves splits closes P each nodes (a ∷ []) z (g, tt) covers 0 (omega arith) inside

-- ---- leaves and points by number

product_below-agree : (n : ℕ) (f g : ℕ → ℕ) → ((k : ℕ) → k < n → f k ≡ g k) → product_below n f ≡ product_below n g
product_below-agree zero f g h = refl
product_below-agree (suc n) f g h =
    let i = product_below-agree n f g (λ k b. h k (omega arith)) in
    let e = h n (omega arith) in
    cc

product_below-positive : (n : ℕ) (f : ℕ → ℕ) → ((k : ℕ) → k < n → 1 ≤ f k) → 1 ≤ product_below n f
product_below-positive zero f h = omega arith
product_below-positive (suc n) f h =
    mul-le 1 1 (product_below n f) (f n) (product_below-positive n f (λ k b. h k (omega arith))) (h n (omega arith))

-- where f is g but for one factor, which is the sum of g's and h's, so is the product
product_below-split : (n j : ℕ) (f g h : ℕ → ℕ) → j < n → ((k : ℕ) → k < n → k ≢ j → g k ≡ f k)
    → ((k : ℕ) → k < n → k ≢ j → h k ≡ f k) → g j + h j ≡ f j
    → product_below n g + product_below n h ≡ product_below n f
product_below-split zero j f g h b eg eh e = absurd (omega arith)
product_below-split (suc n) j f g h b eg eh e =
    elim (cases_lt j n) [
      | inl c ↦
          let i = product_below-split n j f g h c (λ k b' ne. eg k (omega arith) ne)
          (λ k b' ne. eh k (omega arith) ne) e in
          let g' = eg n (omega arith) (omega arith) in
          let h' = eh n (omega arith) (omega arith) in
          let d = add-mul (product_below n g) (product_below n h) (f n) in
          cc
      | inr c ↦
          let same : j ≡ n = omega arith in
          let g' = product_below-agree n g f (λ k b'. eg k (omega arith) (omega arith)) in
          let h' = product_below-agree n h f (λ k b'. eh k (omega arith) (omega arith)) in
          let P : ℕ → Type 0 = λ x. g x + h x ≡ f x in
          let e' = subst P same e in
          let d = mul-add (product_below n f) (g n) (h n) in
          cc
    ]

-- the width of a range that isn't empty, and of two that share out one
width_is : (a : Area) (k : ℕ) → component a.lo k ≤ℤ component a.hi k
    → pos (width_at a k) ≡ component a.hi k -ℤ component a.lo k +ℤ pos 1
width_is a k h = pos-unsigned_abs (component a.hi k -ℤ component a.lo k +ℤ pos 1) (omega (arith, ints))

width-other : (a a' : Area) (k : ℕ) → component a'.lo k ≡ component a.lo k → component a'.hi k ≡ component a.hi k
    → width_at a' k ≡ width_at a k
width-other a a' k e f = rw (e, f) refl

pub point_count-split : (a : Area) (j : ℕ) (v : ℤ) → CanSplit a j v → IsArea a
    → point_count (low_half a j v) + point_count (high_half a j v) ≡ point_count a
point_count-split a j v s g =
    let n : length (slice_set a.lo j (v +ℤ pos 1)) ≡ length a.lo = length-set a.lo j (v +ℤ pos 1) in
    let low = low_area a j v s g in
    let high = high_area a j v s g in
    let widths : width_at (low_half a j v) j + width_at (high_half a j v) j ≡ width_at a j =
    let l = width_is (low_half a j v) j (low.ordered j s.column) in
    let h = width_is (high_half a j v) j (high.ordered j (rw n s.column)) in
    let w = width_is a j (g.ordered j s.column) in
    let top : component (slice_set a.hi j v) j ≡ v =
    get_or-set_same a.hi j v (pos 0) (let c = s.column in let e = g.sides in omega arith) in
    let bottom : component (slice_set a.lo j (v +ℤ pos 1)) j ≡ v +ℤ pos 1 =
    get_or-set_same a.lo j (v +ℤ pos 1) (pos 0) s.column in
    omega (arith, ints) in
    let P : ℕ → Type 0 =
    λ x. product_below (length a.lo) (width_at (low_half a j v)) + product_below x (width_at (high_half a j v))
    ≡ product_below (length a.lo) (width_at a) in
    subst P (sym n)
    (product_below-split (length a.lo) j (width_at a) (width_at (low_half a j v)) (width_at (high_half a j v)) s.column
    (λ k b ne. width-other a (low_half a j v) k refl (get_or-set_other a.hi j k v (pos 0) ne))
    (λ k b ne. width-other a (high_half a j v) k (get_or-set_other a.lo j k (v +ℤ pos 1) (pos 0) ne) refl)
    widths)

pub point_count-positive : (a : Area) → IsArea a → 1 ≤ point_count a
point_count-positive a g =
    product_below-positive (length a.lo) (width_at a)
    (λ k b. let w = width_is a k (g.ordered k b) in let o = g.ordered k b in omega (arith, ints))

-- the points of all boxes
abbrev points_of : List Area → ℕ
points_of [] = 0
points_of (a ∷ rest) = point_count a + points_of rest

leaves_below_points : {S L : Type 0} (nodes : List (Node S L)) (stack : List Area) → AreAreas stack
    → Covers Anything Anything nodes stack → length (leaf_boxes nodes stack) ≤ points_of stack
leaves_below_points [] stack g covers = omega arith
leaves_below_points (n ∷ ns) [] g covers = omega arith
leaves_below_points (Leaf x ∷ ns) (a ∷ stack) g covers =
    let i = leaves_below_points ns stack g.1 covers.1 in
    let b = point_count-positive a g.0 in
    omega arith
leaves_below_points (Split j v s ∷ ns) (a ∷ stack) g covers =
    let i = leaves_below_points ns (low_half a j v ∷ high_half a j v ∷ stack)
    (low_area a j v covers.0.0 g.0, (high_area a j v covers.0.0 g.0, g.1)) covers.1 in
    let e = point_count-split a j v covers.0.0 g.0 in
    omega arith

nodes_by_leaves : {S L : Type 0} (nodes : List (Node S L)) (stack : List Area) → Covers Anything Anything nodes stack
    → length nodes + length stack ≡ 2 * length (leaf_boxes nodes stack)
nodes_by_leaves [] [] covers = refl
nodes_by_leaves [] (a ∷ stack) covers = absurd covers
nodes_by_leaves (Leaf x ∷ ns) [] covers = absurd covers
nodes_by_leaves (Split j v s ∷ ns) [] covers = absurd covers
nodes_by_leaves (Leaf x ∷ ns) (a ∷ stack) covers = let i = nodes_by_leaves ns stack covers.1 in omega arith
nodes_by_leaves (Split j v s ∷ ns) (a ∷ stack) covers = let i =
    nodes_by_leaves ns (low_half a j v ∷ high_half a j v ∷ stack) covers.1 in omega arith

pub leaves_at_most_points : {S L : Type 0} → LeavesAtMostPoints S L
leaves_at_most_points nodes a tree g = (
  let h = leaves_below_points nodes (a ∷ []) (g, tt) tree in omega arith,
  let e =
      nodes_by_leaves nodes (a ∷ []) tree in omega arith,
)

-- ---- a tree, or one node that fails first

-- both never hold
pub never_both : {S L : Type 0} (splits : Area → S → Type 0) (closes : Area → L → Type 0) (nodes : List (Node S L))
    (stack : List Area) (k : ℕ)
    → Covers splits closes nodes stack → ¬ FailsFirst splits closes nodes stack k
never_both splits closes [] [] k covers fails = fails
never_both splits closes [] (a ∷ stack) k covers fails = covers
never_both splits closes (n ∷ ns) [] k covers fails = covers
never_both splits closes (Leaf x ∷ ns) (a ∷ stack) zero covers fails = fails covers.0
never_both splits closes (Leaf x ∷ ns) (a ∷ stack) (suc k) covers fails =
    never_both splits closes ns stack k covers.1 fails.1
never_both splits closes (Split j v s ∷ ns) (a ∷ stack) zero covers fails = fails covers.0
never_both splits closes (Split j v s ∷ ns) (a ∷ stack) (suc k) covers fails =
    never_both splits closes ns (low_half a j v ∷ high_half a j v ∷ stack) k covers.1 fails.1

-- one place at most fails first
pub one_failure : {S L : Type 0} (splits : Area → S → Type 0) (closes : Area → L → Type 0) (nodes : List (Node S L))
    (stack : List Area) (k k' : ℕ)
    → FailsFirst splits closes nodes stack k → FailsFirst splits closes nodes stack k' → k ≡ k'
one_failure splits closes [] [] k k' f g = absurd f
one_failure splits closes [] (a ∷ stack) k k' f g = f ∙ sym g
one_failure splits closes (n ∷ ns) [] k k' f g = f ∙ sym g
one_failure splits closes (Leaf x ∷ ns) (a ∷ stack) zero zero f g = refl
one_failure splits closes (Leaf x ∷ ns) (a ∷ stack) zero (suc k') f g = absurd (f g.0)
one_failure splits closes (Leaf x ∷ ns) (a ∷ stack) (suc k) zero f g = absurd (g f.0)
one_failure splits closes (Leaf x ∷ ns) (a ∷ stack) (suc k) (suc k') f g = let i =
    one_failure splits closes ns stack k k' f.1 g.1 in omega arith
one_failure splits closes (Split j v s ∷ ns) (a ∷ stack) zero zero f g = refl
one_failure splits closes (Split j v s ∷ ns) (a ∷ stack) zero (suc k') f g = absurd (f g.0)
one_failure splits closes (Split j v s ∷ ns) (a ∷ stack) (suc k) zero f g = absurd (g f.0)
one_failure splits closes (Split j v s ∷ ns) (a ∷ stack) (suc k) (suc k') f g =
    let i = one_failure splits closes ns (low_half a j v ∷ high_half a j v ∷ stack) k k' f.1 g.1 in omega arith

-- whether a place splits a column of a box can be tested
can_split : Area → ℕ → ℤ → Bool
can_split a j v = nat_lt j (length a.lo) && (int_le (component a.lo j) v && int_lt v (component a.hi j))

can_split_decides : (a : Area) (j : ℕ) (v : ℤ) → Decides (can_split a j v) (CanSplit a j v)
unfolding can_split
can_split_decides a j v =
    Decides-like (nat_lt j (length a.lo) && (int_le (component a.lo j) v && int_lt v (component a.hi j)))
    (λ h. record { column = h.0; least = h.1.0; below = h.1.1 }) (λ c. (c.column, (c.least, c.below)))
    (Decides-and (nat_lt j (length a.lo)) (int_le (component a.lo j) v && int_lt v (component a.hi j))
    (Decides-ltb j (length a.lo))
    (Decides-and (int_le (component a.lo j) v) (int_lt v (component a.hi j)) (Decides-int_le (component a.lo j) v)
    (Decides-int_lt v (component a.hi j))))

-- a first failure of the rest, or none, after a node that holds
module _ {S L : Type 0} (splits : Area → S → Bool) (closes : Area → L → Bool) where
  abbrev Verdict : List (Node S L) → List Area → Type 0
  Verdict nodes stack =
      Covers (λ a s. IsTrue (splits a s)) (λ a x. IsTrue (closes a x)) nodes stack
      ⊎ ((k : ℕ) × (k ≤ length nodes)
      × FailsFirst (λ a s. IsTrue (splits a s)) (λ a x. IsTrue (closes a x)) nodes stack k)

  verdict : (nodes : List (Node S L)) (stack : List Area) → Verdict nodes stack
  verdict [] [] = inl tt
  verdict [] (a ∷ stack) = inr (0, omega arith, refl)
  verdict (n ∷ ns) [] = inr (0, omega arith, refl)
  verdict (Leaf x ∷ ns) (a ∷ stack) = by (closes a x) refl (verdict ns stack)
    where
      by : (t : Bool) → closes a x ≡ t → Verdict ns stack → Verdict (Leaf x ∷ ns) (a ∷ stack)
      by false e rest = inr (0, omega arith, λ h. true≢false (sym h ∙ e))
      by true e (inl covers) = inl (e, covers)
      by true e (inr (k, b, fails)) = inr (suc k, omega arith, (e, fails))
  verdict (Split j v s ∷ ns) (a ∷ stack) =
      by (can_split a j v && splits a s) refl (verdict ns (low_half a j v ∷ high_half a j v ∷ stack))
    where
      both : Decides (can_split a j v && splits a s) (CanSplit a j v × IsTrue (splits a s))
      both = Decides-and (can_split a j v) (splits a s) (can_split_decides a j v) (Decides-self (splits a s))

      by : (t : Bool) → (can_split a j v && splits a s) ≡ t → Verdict ns (low_half a j v ∷ high_half a j v ∷ stack)
          → Verdict (Split j v s ∷ ns) (a ∷ stack)
      by false e rest = inr (0, omega arith, λ h. true≢false (sym (both.1 h) ∙ e))
      by true e (inl covers) = inl (both.0 e, covers)
      by true e (inr (k, b, fails)) = inr (suc k, omega arith, (both.0 e, fails))

pub covers_or_fails : {S L : Type 0} → CoversOrFails S L
covers_or_fails nodes stack splits closes = record {
  one = verdict splits closes nodes stack;
  apart = λ k. never_both (λ a s. IsTrue (splits a s)) (λ a x. IsTrue (closes a x)) nodes stack k;
  alone = λ k k'. one_failure (λ a s. IsTrue (splits a s)) (λ a x. IsTrue (closes a x)) nodes stack k k';
}
