-- Internal. One step of a walk over a tree in preorder, on the stack of the boxes that are still to be closed.
use Rattle.std.specs.Prelude.{◌≡◌, ◌↔◌, ℕ, List, [], ◌∷◌, Bool, IsTrue, reverse, Option, ℤ, All}
use Rattle.bl_terms.specs.Points.{Area, IsArea, IsWithinArea}
use Rattle.bl_terms.specs.Bounds.{Problem, Fits, Multipliers, Proves, over}
use Rattle.bl_terms.specs.Trees.{BareNode, Leaf, Split, CanSplit, low_half, high_half}

-- a part of the box of a problem that fits
pub record IsPart (q : Problem) (a : Area) : Type 0 where
  pub fits : Fits q
  pub area : IsArea a
  pub within : IsWithinArea a q.area

-- the place splits the box, into these halves
pub record AreHalves (a : Area) (j : ℕ) (v : ℤ) (halves : Area × Area) : Type 0 where
  pub can : CanSplit a j v
  pub low : halves.0 ≡ low_half a j v
  pub high : halves.1 ≡ high_half a j v

-- the node can be taken: a leaf's proof holds over the box at hand, or a split can be made there
abbrev pub Stands : Problem → Option ℤ → BareNode Multipliers → List Area → Type 0
Stands q u n [] = ⊥
Stands q u (Leaf w) (a ∷ stack) = Proves (over q a) u w
Stands q u (Split j v _) (a ∷ stack) = CanSplit a j v

-- the boxes that are to be closed after it
abbrev pub stack_after : BareNode Multipliers → List Area → List Area
stack_after n [] = []
stack_after (Leaf w) (a ∷ stack) = stack
stack_after (Split j v _) (a ∷ stack) = low_half a j v ∷ high_half a j v ∷ stack

-- the step is taken exactly where it stands, and then leaves these boxes; the top of a stack is its last item
pub record IsStepTaken (q : Problem) (u : Option ℤ) (n : BareNode Multipliers) (old new : List Area) (taken : Bool)
    : Type 0 where
  pub verdict : IsTrue taken ↔ Stands q u n (reverse old)
  pub after : IsTrue taken → reverse new ≡ stack_after n (reverse old)
  pub parts : IsTrue taken → All (IsPart q) new
