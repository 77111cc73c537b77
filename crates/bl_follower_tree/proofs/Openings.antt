-- First nodes of trees, and more nodes after them.
use Rattle.std.proofs.Common.{List, [], ◌∷◌, ◌++◌, length, sym, subst, ap, arith}
use Rattle.std.specs.Prelude.{ℤ, Option}
use Rattle.bl_terms.specs.Points.{Area}
use Rattle.bl_terms.specs.Bounds.{Problem, Multipliers, Proves, over}
use Rattle.bl_terms.specs.Trees.{BareNode, Leaf, Split, Anything, Covers, low_half, high_half}
use Rattle.bl_follower_tree.specs.Openings.{Opens}

pub opens_more : (q : Problem) (u : Option ℤ) (nodes more : List (BareNode Multipliers)) (stack rest end : List Area)
    → Opens q u nodes stack rest → Opens q u more rest end → Opens q u (nodes ++ more) stack end
opens_more q u [] more stack rest end h m = subst (λ s. Opens q u more s end) (sym h) m
opens_more q u (Leaf w ∷ ns) more [] rest end h m = absurd h
opens_more q u (Split j v s ∷ ns) more [] rest end h m = absurd h
opens_more q u (Leaf w ∷ ns) more (a ∷ stack) rest end h m = (h.0, opens_more q u ns more stack rest end h.1 m)
opens_more q u (Split j v s ∷ ns) more (a ∷ stack) rest end h m =
    (h.0, opens_more q u ns more (low_half a j v ∷ high_half a j v ∷ stack) rest end h.1 m)

-- with no box left the nodes are whole trees
pub opens_all : (q : Problem) (u : Option ℤ) (nodes : List (BareNode Multipliers)) (stack : List Area)
    → Opens q u nodes stack [] → Covers Anything (λ a w. Proves (over q a) u w) nodes stack
opens_all q u [] [] h = tt
opens_all q u [] (a ∷ stack) h = let e = ap length h in absurd (omega arith)
opens_all q u (Leaf w ∷ ns) [] h = absurd h
opens_all q u (Split j v s ∷ ns) [] h = absurd h
opens_all q u (Leaf w ∷ ns) (a ∷ stack) h = (h.0, opens_all q u ns stack h.1)
opens_all q u (Split j v s ∷ ns) (a ∷ stack) h =
    ((h.0, tt), opens_all q u ns (low_half a j v ∷ high_half a j v ∷ stack) h.1)

-- what proves one cutoff and another opens the same for both
pub opens_too : (q : Problem) (u v : Option ℤ) → ((a : Area) (w : Multipliers) → Proves (over q a) u w
    → Proves (over q a) v w) → (nodes : List (BareNode Multipliers)) (stack rest : List Area)
    → Opens q u nodes stack rest → Opens q v nodes stack rest
opens_too q u v each [] stack rest h = h
opens_too q u v each (Leaf w ∷ ns) [] rest h = absurd h
opens_too q u v each (Split j x s ∷ ns) [] rest h = absurd h
opens_too q u v each (Leaf w ∷ ns) (a ∷ stack) rest h = (each a w h.0, opens_too q u v each ns stack rest h.1)
opens_too q u v each (Split j x s ∷ ns) (a ∷ stack) rest h =
    (h.0, opens_too q u v each ns (low_half a j x ∷ high_half a j x ∷ stack) rest h.1)
