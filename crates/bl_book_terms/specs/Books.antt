-- Trusted. The book of a branch-and-bound search (Land and Doig 1960) that workers share: its states, and the steps
-- that they enter. A step is taken by one worker alone, so that a run is any list of steps that are allowed where they
-- come.
use Rattle.std.specs.Prelude.{ℕ, ℤ, ◌≡◌, ◌+◌, ◌<◌, ◌≤◌, ◌≤ℤ◌, ◌++◌, List, [], ◌∷◌, length, slice_set}
use Rattle.std.specs.Prelude.{slice_index_or, Option, Some, None, if◌then◌else◌, int_lt, nat_eq}
use Rattle.bl_terms.specs.Points.{Area}
use Rattle.bl_terms.specs.Programs.{Program, root}
use Rattle.bl_terms.specs.Trees.{CanSplit, low_half, high_half}
use Rattle.bl_model.specs.Boxes.{Halved}
use Rattle.bl_cut_terms.specs.NoGoods.{NoGoodCut}
use Rattle.bl_leaf_terms.specs.Incumbents.{Incumbent, IsIncumbent, cost_of, cutoff_of}
use Rattle.bl_leaf_terms.specs.Nodes.{NodeLicence, IsNodeLicence}
use Rattle.bl_leaf_terms.specs.Leaves.{ClosedLeaf, IsClosedLeaf}

-- ---- states

-- a node is ready; claimed by a worker, with the best value of that moment; split with a licence, its lower half being
-- the node of this number and its higher half the next one; or closed by a leaf
pub data Status : Type 0 where
  Ready : Status
  Claimed : ℕ → Option ℤ → Status
  Divided : Halved → NodeLicence → ℕ → Status
  Closed : ClosedLeaf → Status

-- a node: its box, the cuts that it inherits, and what has become of it
pub record Node : Type 0 where
  pub area : Area
  pub cuts : List NoGoodCut
  pub status : Status

-- the book of a program: how many workers and nodes there may be, the nodes by number, and the best incumbent
pub record Book : Type 0 where
  pub program : Program
  pub workers : ℕ
  pub limit : ℕ
  pub nodes : List Node
  pub best : Option Incumbent

-- a node that is to be worked on, of this box and with these cuts
abbrev pub ready_node : Area → List NoGoodCut → Node
ready_node a cuts = record { area = a; cuts = cuts; status = Ready }

-- the opening book: the root alone, without cuts or an incumbent
abbrev pub opening : Program → ℕ → ℕ → Book
opening p workers limit =
    record { program = p; workers = workers; limit = limit; nodes = ready_node (root p) [] ∷ []; best = None }

-- the node past the end, and the node at a number
abbrev pub no_node : Node
no_node = ready_node (record { lo = []; hi = [] }) []

abbrev pub node_at : List Node → ℕ → Node
node_at nodes k = slice_index_or nodes k no_node

-- node k is there and has the status
pub record HasStatus (b : Book) (k : ℕ) (s : Status) : Type 0 where
  pub there : k < length b.nodes
  pub status : (node_at b.nodes k).status ≡ s

-- the value that a point has to be below to be better
abbrev pub best_value : Book → Option ℤ
best_value b = cutoff_of b.best

-- the better one of an incumbent, if there is one, and a further one: the lower cost, else the first
abbrev pub improved : Option Incumbent → Incumbent → Option Incumbent
improved None f = Some f
improved (Some g) f = if int_lt (cost_of f) (cost_of g) then Some f else Some g

abbrev pub improved_by : Option Incumbent → Option Incumbent → Option Incumbent
improved_by best None = best
improved_by best (Some f) = improved best f

-- the nodes with another status of node k
abbrev pub with_status : List Node → ℕ → Status → List Node
with_status nodes k s = slice_set nodes k (record (node_at nodes k) { status = s })

-- ---- steps

-- a worker claims a node, gives it back, splits it into halves that inherit cuts, closes it, or offers an incumbent
pub data Event : Type 0 where
  Claim : ℕ → ℕ → Event
  Back : ℕ → ℕ → Event
  Split : ℕ → ℕ → Halved → NodeLicence → List NoGoodCut → Event
  Close : ℕ → ℕ → ClosedLeaf → Event
  Offer : ℕ → Incumbent → Event

-- the book after a step. What a step doesn't name stays as it was
abbrev pub after : Book → Event → Book
after b (Claim w k) = record b { nodes = with_status b.nodes k (Claimed w (best_value b)) }
after b (Back w k) = record b { nodes = with_status b.nodes k Ready }
after b (Split w k h licence cuts) = record b {
  nodes = with_status b.nodes k (Divided h licence (length b.nodes))
      ++ ready_node (low_half h.area h.column h.at) cuts ∷ ready_node (high_half h.area h.column h.at) cuts ∷ [];
  best = improved_by b.best licence.cutoff;
}
after b (Close w k leaf) =
    record b { nodes = with_status b.nodes k (Closed leaf); best = improved_by b.best leaf.cutoff }
after b (Offer w f) = record b { best = improved b.best f }

-- a cutoff asks for no less than the best value at the claim: where there was one the cutoff is at most it
abbrev pub IsCurrent : Option ℤ → Option ℤ → Type 0
IsCurrent None u = Unit {0}
IsCurrent (Some v) None = ⊥
IsCurrent (Some v) (Some u) = u ≤ℤ v

-- worker w may split node k: it is his, the halves and the licence are of its box, the licence holds and is of the
-- book's program and for a current cutoff, and two more nodes may be made
pub record MaySplit (b : Book) (w k : ℕ) (h : Halved) (licence : NodeLicence) : Type 0 where
  pub best : Option ℤ
  pub claimed : HasStatus b k (Claimed w best)
  pub program : licence.program ≡ b.program
  pub halves : h.area ≡ (node_at b.nodes k).area
  pub splits : CanSplit h.area h.column h.at
  pub area : licence.area ≡ (node_at b.nodes k).area
  pub holds : IsNodeLicence licence
  pub current : IsCurrent best (cutoff_of licence.cutoff)
  pub room : length b.nodes + 2 ≤ b.limit

-- worker w may close node k: it is his, and the leaf is a closed one of the book's program and the node's box
pub record MayClose (b : Book) (w k : ℕ) (leaf : ClosedLeaf) : Type 0 where
  pub best : Option ℤ
  pub claimed : HasStatus b k (Claimed w best)
  pub program : leaf.program ≡ b.program
  pub area : leaf.area ≡ (node_at b.nodes k).area
  pub holds : IsClosedLeaf leaf

-- an incumbent of the book's program
pub record MayOffer (b : Book) (f : Incumbent) : Type 0 where
  pub program : f.program ≡ b.program
  pub holds : IsIncumbent f

-- the step is allowed
abbrev pub IsAllowed : Book → Event → Type 0
IsAllowed b (Claim w k) = (w < b.workers) × HasStatus b k Ready
IsAllowed b (Back w k) = (w < b.workers) × ((u : Option ℤ) × HasStatus b k (Claimed w u))
IsAllowed b (Split w k h licence cuts) = (w < b.workers) × MaySplit b w k h licence
IsAllowed b (Close w k leaf) = (w < b.workers) × MayClose b w k leaf
IsAllowed b (Offer w f) = (w < b.workers) × MayOffer b f

-- ---- runs

-- the steps are allowed one after the other and lead from one book to another
abbrev pub Leads : Book → List Event → Book → Type 0
Leads b [] b' = b ≡ b'
Leads b (e ∷ events) b' = IsAllowed b e × Leads (after b e) events b'

-- a book with its journal: the steps that lead to it from the opening book
pub record Ledger : Type 0 where
  pub book : Book
  pub journal : List Event

abbrev pub IsRun : Ledger → Type 0
IsRun l = Leads (opening l.book.program l.book.workers l.book.limit) l.journal l.book

-- the best value at the last claim of node k, none where it was never claimed; the value may be none too
abbrev pub claim_from : Book → List Event → ℕ → Option (Option ℤ) → Option (Option ℤ)
claim_from b [] k found = found
claim_from b (Claim w j ∷ events) k found =
    claim_from (after b (Claim w j)) events k (if nat_eq j k then Some (best_value b) else found)
claim_from b (Back w j ∷ events) k found = claim_from (after b (Back w j)) events k found
claim_from b (Split w j h licence cuts ∷ events) k found =
    claim_from (after b (Split w j h licence cuts)) events k found
claim_from b (Close w j leaf ∷ events) k found = claim_from (after b (Close w j leaf)) events k found
claim_from b (Offer w f ∷ events) k found = claim_from (after b (Offer w f)) events k found

abbrev pub last_claim : Ledger → ℕ → Option (Option ℤ)
last_claim l k = claim_from (opening l.book.program l.book.workers l.book.limit) l.journal k None

-- ---- leaves

-- the node has no halves
abbrev pub IsLeaf : Status → Type 0
IsLeaf Ready = Unit {0}
IsLeaf (Claimed w u) = Unit {0}
IsLeaf (Divided h licence low) = ⊥
IsLeaf (Closed leaf) = Unit {0}

-- the node is still to be worked on
abbrev pub IsLive : Status → Type 0
IsLive Ready = Unit {0}
IsLive (Claimed w u) = Unit {0}
IsLive (Divided h licence low) = ⊥
IsLive (Closed leaf) = ⊥

-- no node is still to be worked on
pub record IsFinished (b : Book) : Type 0 where
  pub none : (k : ℕ) → k < length b.nodes → ¬ IsLive (node_at b.nodes k).status
