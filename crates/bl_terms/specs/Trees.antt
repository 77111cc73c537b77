-- Trusted. Branch-and-bound trees that split a box (Land and Doig 1960), generic in what a split and a leaf
-- hand in: lists of nodes in preorder over a stack of the boxes that are still to be closed.
use Rattle.std.specs.Prelude.{ℕ, ℤ, pos, ◌≡◌, ◌+◌, ◌*◌, ◌<◌, ◌≤◌, ◌+ℤ◌, ◌-ℤ◌, ◌≤ℤ◌, ◌<ℤ◌, zero, suc, Bool, IsTrue, ◌⊎◌}
use Rattle.std.specs.Prelude.{List, [], ◌∷◌, length, slice_set, slice_index_or, unsigned_abs}
use Rattle.bl_whole.specs.Sums.{component}
use Rattle.bl_terms.specs.Points.{Area, IsArea, InArea, IsWithinArea}

-- a node: a leaf with what it hands in, or a split of the box at hand at a column and a place with what it hands in
pub data Node (S L : Type 0) : Type 0 where
  Leaf : L → Node S L
  Split : ℕ → ℤ → S → Node S L

-- a node of a tree whose splits hand in nothing
abbrev pub BareNode : Type 0 → Type 0
BareNode L = Node (Unit {0}) L

-- whatever is handed in for the box will do
abbrev pub Anything : {X : Type 0} → Area → X → Type 0
Anything a x = Unit {0}

-- the box up to the place v of column j, and the box from v + 1 on
abbrev pub low_half : Area → ℕ → ℤ → Area
low_half a j v = record { lo = a.lo; hi = slice_set a.hi j v }

abbrev pub high_half : Area → ℕ → ℤ → Area
high_half a j v = record { lo = slice_set a.lo j (v +ℤ pos 1); hi = a.hi }

-- the place v splits column j of the box: both halves have a number there
pub record CanSplit (a : Area) (j : ℕ) (v : ℤ) : Type 0 where
  pub column : j < length a.lo
  pub least : component a.lo j ≤ℤ v
  pub below : v <ℤ component a.hi j

-- the nodes are trees over the boxes of the stack, one for each in their order; each split can be made and is
-- shown by what it hands in, and each leaf closes its box
abbrev pub Covers : {S L : Type 0} → (Area → S → Type 0) → (Area → L → Type 0) → List (Node S L) → List Area → Type 0
Covers splits closes [] [] = Unit {0}
Covers splits closes [] (a ∷ stack) = ⊥
Covers splits closes (n ∷ ns) [] = ⊥
Covers splits closes (Leaf x ∷ ns) (a ∷ stack) = closes a x × Covers splits closes ns stack
Covers splits closes (Split j v s ∷ ns) (a ∷ stack) =
    (CanSplit a j v × splits a s) × Covers splits closes ns (low_half a j v ∷ high_half a j v ∷ stack)

-- k is the place of the first node in preorder that fails. A list that ends early fails at its length, and
-- one that goes on after the last tree at its first surplus node
abbrev pub FailsFirst : {S L : Type 0} → (Area → S → Type 0) → (Area → L → Type 0) → List (Node S L) → List Area → ℕ
    → Type 0
FailsFirst splits closes [] [] k = ⊥
FailsFirst splits closes [] (a ∷ stack) k = k ≡ 0
FailsFirst splits closes (n ∷ ns) [] k = k ≡ 0
FailsFirst splits closes (Leaf x ∷ ns) (a ∷ stack) zero = ¬ closes a x
FailsFirst splits closes (Leaf x ∷ ns) (a ∷ stack) (suc k) = closes a x × FailsFirst splits closes ns stack k
FailsFirst splits closes (Split j v s ∷ ns) (a ∷ stack) zero = ¬ (CanSplit a j v × splits a s)
FailsFirst splits closes (Split j v s ∷ ns) (a ∷ stack) (suc k) =
    (CanSplit a j v × splits a s) × FailsFirst splits closes ns (low_half a j v ∷ high_half a j v ∷ stack) k

-- the nodes are a tree over the box, whatever its splits and leaves hand in
abbrev pub IsTree : {S L : Type 0} → List (Node S L) → Area → Type 0
IsTree nodes a = Covers Anything Anything nodes (a ∷ [])

-- the boxes of the leaves, in order
abbrev pub leaf_boxes : {S L : Type 0} → List (Node S L) → List Area → List Area
leaf_boxes [] stack = []
leaf_boxes (n ∷ ns) [] = []
leaf_boxes (Leaf x ∷ ns) (a ∷ stack) = a ∷ leaf_boxes ns stack
leaf_boxes (Split j v s ∷ ns) (a ∷ stack) = leaf_boxes ns (low_half a j v ∷ high_half a j v ∷ stack)

-- the box past the end of a list of boxes, and the box at a place
abbrev pub no_area : Area
no_area = record { lo = []; hi = [] }

abbrev pub area_at : List Area → ℕ → Area
area_at boxes i = slice_index_or boxes i no_area

-- f 0 · f 1 · .. · f (n - 1)
abbrev pub product_below : ℕ → (ℕ → ℕ) → ℕ
product_below zero f = 1
product_below (suc n) f = product_below n f * f n

-- how many numbers column k's range has, where it isn't empty
abbrev pub width_at : Area → ℕ → ℕ
width_at a k = unsigned_abs (component a.hi k -ℤ component a.lo k +ℤ pos 1)

-- how many points a box has, where no range is empty
abbrev pub point_count : Area → ℕ
point_count a = product_below (length a.lo) (width_at a)

-- THE LAWS, of trees whose splits hand in values of S and whose leaves hand in values of L

-- each point of the box lies in exactly one box of a leaf
abbrev pub EachPointInOneLeaf : Type 0 → Type 0 → Type 0
EachPointInOneLeaf S L =
    (nodes : List (Node S L)) (a : Area) (z : List ℤ) → IsTree nodes a → length a.hi ≡ length a.lo → InArea a z
    → (i : ℕ) × (i < length (leaf_boxes nodes (a ∷ []))) × InArea (area_at (leaf_boxes nodes (a ∷ [])) i) z
    × ((i' : ℕ) → i' < length (leaf_boxes nodes (a ∷ [])) → InArea (area_at (leaf_boxes nodes (a ∷ [])) i') z → i' ≡ i)

-- each box of a leaf has a point, and lies within the box
abbrev pub LeavesAreParts : Type 0 → Type 0 → Type 0
LeavesAreParts S L =
    (nodes : List (Node S L)) (a : Area) (i : ℕ) → IsTree nodes a → IsArea a → i < length (leaf_boxes nodes (a ∷ []))
    → IsArea (area_at (leaf_boxes nodes (a ∷ [])) i) × IsWithinArea (area_at (leaf_boxes nodes (a ∷ [])) i) a

-- a tree has at most as many leaves as its box has points, and one node less than twice its leaves
abbrev pub LeavesAtMostPoints : Type 0 → Type 0 → Type 0
LeavesAtMostPoints S L =
    (nodes : List (Node S L)) (a : Area) → IsTree nodes a → IsArea a
    → (length (leaf_boxes nodes (a ∷ [])) ≤ point_count a) × (length nodes + 1 ≡ 2 * length (leaf_boxes nodes (a ∷ [])))

-- where tests decide what splits and leaves show, the nodes are trees over the boxes or fail first at one place, and
-- never both
pub record OneVerdict (S L : Type 0) (nodes : List (Node S L)) (stack : List Area) (splits : Area → S → Bool)
    (closes : Area → L → Bool) : Type 0 where
  pub one : Covers (λ a s. IsTrue (splits a s)) (λ a x. IsTrue (closes a x)) nodes stack
      ⊎ ((k : ℕ) × (k ≤ length nodes)
      × FailsFirst (λ a s. IsTrue (splits a s)) (λ a x. IsTrue (closes a x)) nodes stack k)
  pub apart : (k : ℕ) → Covers (λ a s. IsTrue (splits a s)) (λ a x. IsTrue (closes a x)) nodes stack
      → ¬ FailsFirst (λ a s. IsTrue (splits a s)) (λ a x. IsTrue (closes a x)) nodes stack k
  pub alone : (k k' : ℕ) → FailsFirst (λ a s. IsTrue (splits a s)) (λ a x. IsTrue (closes a x)) nodes stack k
      → FailsFirst (λ a s. IsTrue (splits a s)) (λ a x. IsTrue (closes a x)) nodes stack k' → k ≡ k'

abbrev pub CoversOrFails : Type 0 → Type 0 → Type 0
CoversOrFails S L =
    (nodes : List (Node S L)) (stack : List Area) (splits : Area → S → Bool) (closes : Area → L → Bool)
    → OneVerdict S L nodes stack splits closes
