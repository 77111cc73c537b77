-- Trusted. Proofs of a link's entry: a tree over the box of the follower's columns whose leaves are closed by bound
-- proofs.
use Rattle.std.specs.Prelude.{ℤ, ◌≡◌, ◌-ℤ◌, ◌↔◌, List, [], ◌∷◌, Option, Some, None, if◌then◌else◌}
use Rattle.bl_whole.specs.Sums.{dot}
use Rattle.bl_terms.specs.Points.{Area, InArea, IsWithinArea, Linear, values_at}
use Rattle.bl_terms.specs.Programs.{Program, Row, IsProgram}
use Rattle.bl_terms.specs.Responses.{IsResponse, response_cost, Entry, Best, NoResponse, IsTrueEntry}
use Rattle.bl_terms.specs.Trees.{BareNode, Anything, Covers}
use Rattle.bl_terms.specs.Bounds.{Problem, IsPoint, Multipliers, Proves}

-- a row of the follower over its own columns, with l put in on the linking columns
abbrev pub follower_row : Program → List ℤ → Row → Linear
follower_row p l r = record { coef = values_at r.coef p.follower; rhs = r.rhs -ℤ dot (values_at r.coef p.links) l }

-- the follower's rows among the given rows, in their order
abbrev pub follower_rows : Program → List ℤ → List Row → List Linear
follower_rows p l [] = []
follower_rows p l (r ∷ rs) = if r.lower then follower_row p l r ∷ follower_rows p l rs else follower_rows p l rs

-- the whole box of the follower's columns
abbrev pub follower_box : Program → Area
follower_box p = record { lo = values_at p.lo p.follower; hi = values_at p.hi p.follower }

-- the follower's problem at the link l, over a box of its columns
abbrev pub follower_problem : Program → List ℤ → Area → Problem
follower_problem p l a =
    record { rows = follower_rows p l p.rows; cost = values_at p.follower_cost p.follower; area = a }

-- the nodes are a tree over the follower's box, each leaf of which has a proof of the follower's problem over its box
-- with the cutoff u
abbrev pub ClosesFollower : Program → List ℤ → Option ℤ → List (BareNode Multipliers) → Type 0
ClosesFollower p l u nodes = Covers Anything (λ a w. Proves (follower_problem p l a) u w) nodes (follower_box p ∷ [])

-- y is a response of cost v, and the tree proves the cutoff v
pub record ProvesBest (p : Program) (l y : List ℤ) (v : ℤ) (nodes : List (BareNode Multipliers)) : Type 0 where
  pub response : IsResponse p l y
  pub value : response_cost p y ≡ v
  pub tree : ClosesFollower p l (Some v) nodes

-- the nodes are a proof of the entry for the link l
abbrev pub IsFollowerProof : Program → List ℤ → Entry → List (BareNode Multipliers) → Type 0
IsFollowerProof p l (Best y v) nodes = ProvesBest p l y v nodes
IsFollowerProof p l NoResponse nodes = ClosesFollower p l None nodes

-- THE LAWS

-- a follower proof implies that the entry is true
abbrev pub FollowerProofLaw : Type 0
FollowerProofLaw =
    (p : Program) (l : List ℤ) (e : Entry) (nodes : List (BareNode Multipliers)) → IsProgram p
    → IsFollowerProof p l e nodes → IsTrueEntry p l e

-- the points of the follower's problem over a part of the follower's box are the responses there
abbrev pub FollowerPoints : Type 0
FollowerPoints =
    (p : Program) (l y : List ℤ) (a : Area) → IsProgram p → IsWithinArea a (follower_box p)
    → IsPoint (follower_problem p l a) y ↔ (InArea a y × IsResponse p l y)
