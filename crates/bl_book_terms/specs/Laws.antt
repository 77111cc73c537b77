-- Trusted. What every run of steps keeps, and what a finished book says.
use Rattle.std.specs.Prelude.{ℕ, suc, ℤ, ◌≡◌, ◌+◌, ◌*◌, ◌<◌, ◌≤◌, List, [], ◌∷◌, length}
use Rattle.std.specs.Prelude.{Option, Some, MatchOption}
use Rattle.bl_terms.specs.Points.{Area, IsArea, InArea, IsWithinArea, IsOnePoint}
use Rattle.bl_terms.specs.Programs.{root, InBox, value_at}
use Rattle.bl_terms.specs.Trees.{point_count, CanSplit, low_half, high_half}
use Rattle.bl_terms.specs.Feasible.{Optimal, Infeasible}
use Rattle.bl_model.specs.View.{IsModel}
use Rattle.bl_model.specs.Boxes.{Halved}
use Rattle.bl_leaf_terms.specs.Incumbents.{AreIncumbents, cutoff_of}
use Rattle.bl_leaf_terms.specs.Nodes.{NodeLicence, IsNodeLicence}
use Rattle.bl_leaf_terms.specs.Leaves.{ClosedLeaf, IsClosedLeaf}
use Rattle.bl_book_terms.specs.Books.{Status, Ready, Claimed, Divided, Closed, Node, node_at, Book, Event, Leads}
use Rattle.bl_book_terms.specs.Books.{Ledger}
use Rattle.bl_book_terms.specs.Books.{IsRun, IsLeaf, IsLive, IsFinished, IsCurrent, HasStatus, best_value, last_claim}

-- node k is a leaf whose box has the point z
pub record IsLeafOf (b : Book) (k : ℕ) (z : List ℤ) : Type 0 where
  pub there : k < length b.nodes
  pub leaf : IsLeaf (node_at b.nodes k).status
  pub inside : InArea (node_at b.nodes k).area z

-- how many leaves there are, and how many points they have together
abbrev pub leaf_weight : (Area → ℕ) → Node → ℕ
leaf_weight weight n = by n.status
  where
    by : Status → ℕ
    by Ready = weight n.area
    by (Claimed w u) = weight n.area
    by (Divided h licence low) = 0
    by (Closed leaf) = weight n.area

abbrev pub leaf_sum : (Area → ℕ) → List Node → ℕ
leaf_sum weight [] = 0
leaf_sum weight (n ∷ nodes) = leaf_weight weight n + leaf_sum weight nodes

abbrev pub leaf_count : List Node → ℕ
leaf_count nodes = leaf_sum (λ a. 1) nodes

abbrev pub leaf_points : List Node → ℕ
leaf_points nodes = leaf_sum point_count nodes

-- what a node keeps: a claimed one a worker and a best value that was reached; a split one a licence of its box and its
-- halves, whose numbers are higher; a closed one a leaf of its box, whose cutoff was reached
pub record IsSplitNode (b : Book) (k : ℕ) (h : Halved) (licence : NodeLicence) (low : ℕ) : Type 0 where
  pub program : licence.program ≡ b.program
  pub licence_area : licence.area ≡ (node_at b.nodes k).area
  pub holds : IsNodeLicence licence
  pub reached : IsCurrent (cutoff_of licence.cutoff) (best_value b)
  pub area : h.area ≡ (node_at b.nodes k).area
  pub splits : CanSplit h.area h.column h.at
  pub higher : k < low
  pub there : suc low < length b.nodes
  pub low_area : (node_at b.nodes low).area ≡ low_half h.area h.column h.at
  pub high_area : (node_at b.nodes (suc low)).area ≡ high_half h.area h.column h.at

pub record IsClosedNode (b : Book) (k : ℕ) (leaf : ClosedLeaf) : Type 0 where
  pub program : leaf.program ≡ b.program
  pub area : leaf.area ≡ (node_at b.nodes k).area
  pub holds : IsClosedLeaf leaf
  pub reached : IsCurrent (cutoff_of leaf.cutoff) (best_value b)

abbrev pub KeepsStatus : Book → ℕ → Status → Type 0
KeepsStatus b k Ready = Unit {0}
KeepsStatus b k (Claimed w u) = (w < b.workers) × IsCurrent u (best_value b)
KeepsStatus b k (Divided h licence low) = IsSplitNode b k h licence low
KeepsStatus b k (Closed leaf) = IsClosedNode b k leaf

-- every box is a part of the program's that has a point; each point of the program's box lies in exactly one leaf, and
-- the leaves have as many points together; one node less than twice the leaves was made, within the limit; the best is
-- an incumbent of the program; and each node keeps what its status asks for
pub record IsSound (b : Book) : Type 0 where
  pub areas : (k : ℕ) → k < length b.nodes → IsArea (node_at b.nodes k).area
  pub within : (k : ℕ) → k < length b.nodes → IsWithinArea (node_at b.nodes k).area (root b.program)
  pub covered : (z : List ℤ) → InBox b.program z → (k : ℕ) × IsLeafOf b k z
  pub once : (z : List ℤ) (k k' : ℕ) → IsLeafOf b k z → IsLeafOf b k' z → k ≡ k'
  pub points : leaf_points b.nodes ≡ point_count (root b.program)
  pub made : length b.nodes + 1 ≡ 2 * leaf_count b.nodes
  pub few : length b.nodes ≤ b.limit
  pub incumbent : AreIncumbents b.program b.best
  pub kept : (k : ℕ) → k < length b.nodes → KeepsStatus b k (node_at b.nodes k).status

-- THE LAWS

-- after each step of every run
abbrev pub EveryRunIsSound : Type 0
EveryRunIsSound = (l : Ledger) → IsModel l.book.program → 1 ≤ l.book.limit → IsRun l → IsSound l.book

-- a finished book: its best incumbent is optimal, and without one there is no bilevel feasible point
abbrev pub FinishedRunAnswers : Type 0
FinishedRunAnswers =
    (l : Ledger) → IsModel l.book.program → 1 ≤ l.book.limit → IsRun l → IsFinished l.book
    → MatchOption l.book.best (Infeasible l.book.program)
    (λ f. Optimal l.book.program f.point (value_at l.book.program f.point))

-- where a live leaf has several points, the nodes and two more are at most twice the points of the whole box less one
abbrev pub RoomIsLeft : Type 0
RoomIsLeft =
    (l : Ledger) (k : ℕ) → IsModel l.book.program → 1 ≤ l.book.limit → IsRun l → k < length l.book.nodes
    → IsLive (node_at l.book.nodes k).status → ¬ IsOnePoint (node_at l.book.nodes k).area
    → length l.book.nodes + 3 ≤ 2 * point_count (root l.book.program)

-- the best value never rises
abbrev pub BestNeverRises : Type 0
BestNeverRises = (b b' : Book) (events : List Event) → Leads b events b' → IsCurrent (best_value b) (best_value b')

-- a claimed node keeps the best value at its last claim
abbrev pub ClaimIsLast : Type 0
ClaimIsLast =
    (l : Ledger) (k w : ℕ) (u : Option ℤ) → IsRun l → HasStatus l.book k (Claimed w u) → last_claim l k ≡ Some u
