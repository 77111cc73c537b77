-- Trees that are read node by node.
use Rattle.std.proofs.Common.{◌≡◌, ℕ, List, [], ◌∷◌, ◌++◌, refl, sym, subst}
use Rattle.std.specs.Prelude.{ℤ}
use Rattle.bl_terms.specs.Points.{Area}
use Rattle.bl_terms.specs.Trees.{BareNode, Leaf, Split, Anything, CanSplit, Covers, low_half, high_half}

-- the nodes are of trees over the first boxes, each leaf closes its box, and these boxes are left to be closed
abbrev pub LeadsTo : {L : Type 0} → (Area → L → Type 0) → List (BareNode L) → List Area → List Area → Type 0
LeadsTo closes [] boxes left = boxes ≡ left
LeadsTo closes (n ∷ ns) [] left = ⊥
LeadsTo closes (Leaf x ∷ ns) (a ∷ stack) left = closes a x × LeadsTo closes ns stack left
LeadsTo closes (Split j v s ∷ ns) (a ∷ stack) left =
    CanSplit a j v × LeadsTo closes ns (low_half a j v ∷ high_half a j v ∷ stack) left

-- where none is left, they are trees over the boxes, whose leaves close theirs in each wider sense too
pub covers : {L : Type 0} (closes wider : Area → L → Type 0) (nodes : List (BareNode L)) (boxes : List Area)
    → ((a : Area) (x : L) → closes a x → wider a x) → LeadsTo closes nodes boxes []
    → Covers Anything wider nodes boxes
covers closes wider [] [] f h = tt
covers closes wider [] (a ∷ stack) f h = absurd cc
covers closes wider (Leaf x ∷ ns) [] f h = absurd h
covers closes wider (Split j v s ∷ ns) [] f h = absurd h
covers closes wider (Leaf x ∷ ns) (a ∷ stack) f h = (f a x h.0, covers closes wider ns stack f h.1)
covers closes wider (Split j v s ∷ ns) (a ∷ stack) f h =
    ((h.0, tt), covers closes wider ns (low_half a j v ∷ high_half a j v ∷ stack) f h.1)

-- one more leaf closes the next box
pub leaf_more : {L : Type 0} (closes : Area → L → Type 0) (nodes : List (BareNode L)) (boxes : List Area) (a : Area)
    (left : List Area) (x : L) → LeadsTo closes nodes boxes (a ∷ left) → closes a x
    → LeadsTo closes (nodes ++ Leaf x ∷ []) boxes left
leaf_more closes [] boxes a left x h c = subst (λ bs. LeadsTo closes (Leaf x ∷ []) bs left) (sym h) (c, refl)
leaf_more closes (n ∷ ns) [] a left x h c = absurd h
leaf_more closes (Leaf y ∷ ns) (b ∷ stack) a left x h c = (h.0, leaf_more closes ns stack a left x h.1 c)
leaf_more closes (Split j v s ∷ ns) (b ∷ stack) a left x h c =
    (h.0, leaf_more closes ns (low_half b j v ∷ high_half b j v ∷ stack) a left x h.1 c)

-- one more split leaves the halves of the next box
pub split_more : {L : Type 0} (closes : Area → L → Type 0) (nodes : List (BareNode L)) (boxes : List Area) (a : Area)
    (left : List Area) (j : ℕ) (v : ℤ) → LeadsTo closes nodes boxes (a ∷ left) → CanSplit a j v
    → LeadsTo closes (nodes ++ Split j v tt ∷ []) boxes (low_half a j v ∷ high_half a j v ∷ left)
split_more closes [] boxes a left j v h c =
    subst (λ bs. LeadsTo closes (Split j v tt ∷ []) bs (low_half a j v ∷ high_half a j v ∷ left)) (sym h) (c, refl)
split_more closes (n ∷ ns) [] a left j v h c = absurd h
split_more closes (Leaf y ∷ ns) (b ∷ stack) a left j v h c = (h.0, split_more closes ns stack a left j v h.1 c)
split_more closes (Split i w s ∷ ns) (b ∷ stack) a left j v h c =
    (h.0, split_more closes ns (low_half b i w ∷ high_half b i w ∷ stack) a left j v h.1 c)
