-- Internal. The first nodes of trees that bound proofs close.
use Rattle.std.specs.Prelude.{◌≡◌, ◌+◌, ℕ, ℤ, List, [], ◌∷◌, Option}
use Rattle.bl_terms.specs.Points.{Area}
use Rattle.bl_terms.specs.Bounds.{Problem, Multipliers, Proves, over}
use Rattle.bl_terms.specs.Trees.{BareNode, Leaf, Split, CanSplit, low_half, high_half, point_count}
use Rattle.bl_fproof.specs.Stacks.{IsPart}

-- the nodes are trees over the first boxes of the stack, each leaf closed for the cutoff u, and the boxes of rest are
-- what they leave of it
abbrev pub Opens : Problem → Option ℤ → List (BareNode Multipliers) → List Area → List Area → Type 0
Opens q u [] stack rest = stack ≡ rest
Opens q u (n ∷ ns) [] rest = ⊥
Opens q u (Leaf w ∷ ns) (a ∷ stack) rest = Proves (over q a) u w × Opens q u ns stack rest
Opens q u (Split j v s ∷ ns) (a ∷ stack) rest =
    CanSplit a j v × Opens q u ns (low_half a j v ∷ high_half a j v ∷ stack) rest

-- each box is a part of the problem's
abbrev pub AreParts : Problem → List Area → Type 0
AreParts q [] = Unit {0}
AreParts q (a ∷ rest) = IsPart q a × AreParts q rest

-- the points of all boxes
abbrev pub points_of : List Area → ℕ
points_of [] = 0
points_of (a ∷ rest) = point_count a + points_of rest
