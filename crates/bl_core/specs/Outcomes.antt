-- Trusted. How a search ends, and what shows that it may: each end has its cause in the book.
use Rattle.std.specs.Prelude.{ℕ, ℤ, ◌+◌, ◌<◌, ◌≤ℤ◌, ◌≡◌, List, length, slice_index, Option, Some, None, MatchOption}
use Rattle.bl_whole.specs.Sums.{component}
use Rattle.bl_terms.specs.Points.{Area, IsOnePoint}
use Rattle.bl_terms.specs.Programs.{Program, value_at}
use Rattle.bl_terms.specs.Feasible.{Optimal, Infeasible}
use Rattle.bl_terms.specs.Trees.{CanSplit}
use Rattle.bl_model.specs.Boxes.{Halved}
use Rattle.bl_leaf_terms.specs.Incumbents.{cutoff_of}
use Rattle.bl_leaf_terms.specs.Nodes.{NodeLicence, IsNodeLicence}
use Rattle.bl_follower.specs.Exhausted.{Exhausted}
use Rattle.bl_book_terms.specs.Books.{node_at, Book, Ledger, IsLive, IsCurrent, IsFinished, last_claim}
use Rattle.bl_core.specs.declared.outcome.Ended.{Ended}
use Rattle.bl_core.specs.declared.outcome.Ended.TheVariants.{Done, Nodes, Follower}
use Rattle.bl_core.specs.declared.fail.SplitFail.TheVariants.{Full}
use Rattle.bl_core.specs.Accounts.{KeptBook, IsKept}
use Rattle.bl_core.specs.Refusals.{IsSplitFailure}

-- a book and how its search ended
pub record Ending : Type 0 where
  pub book : KeptBook
  pub end : Ended

-- node k is there, and is ready or claimed
pub record IsLiveNode (b : Book) (k : ℕ) : Type 0 where
  pub there : k < length b.nodes
  pub live : IsLive (node_at b.nodes k).status

-- no more nodes could be made, while node k of several points was to be split: a worker has claimed it, and a licence
-- holds that has a cutoff as low as the best value at its last claim
pub record IsOutOfNodes (l : Ledger) (k : ℕ) (why : NodeLicence) : Type 0 where
  pub full : l.book.limit < length l.book.nodes + 2
  pub live : IsLiveNode l.book k
  pub several : ¬ IsOnePoint (node_at l.book.nodes k).area
  pub best : Option ℤ
  pub claimed : last_claim l k ≡ Some best
  pub holds : IsNodeLicence why
  pub program : why.program ≡ l.book.program
  pub area : why.area ≡ (node_at l.book.nodes k).area
  pub current : IsCurrent best (cutoff_of why.cutoff)

-- each value of a link is in the box's range of its linking column
pub record IsLinkWithin (p : Program) (a : Area) (link : List ℤ) : Type 0 where
  pub count : length link ≡ length p.links
  pub least : (j : ℕ) → j < length p.links → component a.lo (slice_index p.links j) ≤ℤ component link j
  pub most : (j : ℕ) → j < length p.links → component link j ≤ℤ component a.hi (slice_index p.links j)

-- the nodes that the follower's solver may take were spent at a link of node k's box, which is still to be worked on
pub record IsSpentIn (b : Book) (k : ℕ) (s : Exhausted) : Type 0 where
  pub live : IsLiveNode b k
  pub program : s.program ≡ b.program
  pub link : IsLinkWithin b.program (node_at b.nodes k).area s.link

-- the cause of an end: no node is left to be worked on; or there was no place for more nodes; or the follower's nodes
-- were spent at a link of a box that is left
abbrev pub IsCause : Ledger → Ended → Type 0
IsCause l Done = IsFinished l.book
IsCause l (Nodes node why) = IsOutOfNodes l node why
IsCause l (Follower spent) = (k : ℕ) × IsSpentIn l.book k spent

-- the answer of a search that is done: the best incumbent is optimal, and without one no point is bilevel feasible
abbrev pub Answers : Book → Ended → Type 0
Answers b Done =
    MatchOption b.best (Infeasible b.program) (λ f. Optimal b.program f.point (value_at b.program f.point))
Answers b (Nodes node why) = Unit {0}
Answers b (Follower spent) = Unit {0}

-- THE LAW: where a split is refused since there is no place for more nodes, that is a cause of an end
abbrev pub FullBookMayEnd : Type 0
FullBookMayEnd =
    (l : Ledger) (w k : ℕ) (h : Halved) (why back : NodeLicence) (made : ℕ) → IsKept l
    → CanSplit h.area h.column h.at → IsNodeLicence why → IsSplitFailure l.book w k h why (Full made back)
    → IsCause l (Nodes k back)
