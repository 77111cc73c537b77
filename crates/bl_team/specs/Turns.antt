-- Internal. The turns of one worker: he takes a ready node, works on it, and closes or splits it.
use Rattle.std.specs.Prelude.{◌≡◌, ◌+◌, ◌-◌, ◌*◌, ◌<◌, ◌≤◌, ℕ, zero, ℤ, Option, length}
use Rattle.bl_model.specs.Boxes.{Halved}
use Rattle.bl_leaf_terms.specs.Incumbents.{cutoff_of}
use Rattle.bl_leaf_terms.specs.Nodes.{NodeLicence}
use Rattle.bl_leaf_terms.specs.Leaves.{ClosedLeaf}
use Rattle.bl_book_terms.specs.Books.{Book, Ledger, Claimed, HasStatus, node_at, best_value, IsCurrent}
use Rattle.bl_core.specs.Accounts.{KeptBook, live_count}
use Rattle.bl_core.specs.Outcomes.{IsCause}
use Rattle.bl_core.specs.Tasks.{IsTaskOf}
use Rattle.bl_core.specs.declared.outcome.Ended.{Ended}
use Rattle.bl_tree.specs.declared.task.Task.{Task}
use Rattle.bl_node.specs.Works.{IsJob, job_of}
use Rattle.bl_team.specs.Answers.{EndsWithin}
use Rattle.bl_team.specs.declared.turn.Turn.{Turn}
use Rattle.bl_team.specs.declared.turn.Turn.TheVariants.{Closed, Divided, Ended as Ends}

-- one worker, who has claimed no node
pub record IsIdle (b : Book) : Type 0 where
  pub workers : b.workers ≡ 1
  pub none : (k w : ℕ) (u : Option ℤ) → ¬ HasStatus b k (Claimed w u)

-- one worker, who has claimed node k and no other, with the best value of now
pub record IsAtWork (b : Book) (k : ℕ) : Type 0 where
  pub workers : b.workers ≡ 1
  pub claimed : HasStatus b k (Claimed zero (best_value b))
  pub none : (j w : ℕ) (u : Option ℤ) → HasStatus b j (Claimed w u) → j ≡ k

-- the book is one of the same search
pub record IsSameSearch (b b' : Book) : Type 0 where
  pub program : b'.program ≡ b.program
  pub limit : b'.limit ≡ b.limit

-- how much is left to do: the nodes that may still be made, and those that are live
abbrev pub left_of : Book → ℕ
left_of b = 2 * (b.limit - length b.nodes) + live_count b.nodes

-- the worker is idle again, and less is left to do
pub record IsTurnOver (b b' : Book) : Type 0 where
  pub same : IsSameSearch b b'
  pub idle : IsIdle b'
  pub less : left_of b' < left_of b

-- the worker has begun with node k
pub record IsBegun (b : Book) (k : ℕ) (b' : Book) : Type 0 where
  pub same : IsSameSearch b b'
  pub work : IsAtWork b' k
  pub left : left_of b' ≡ left_of b

-- ... with this task
pub record IsBegunWith (b : Book) (k : ℕ) (t : Task) (b' : Book) : Type 0 where
  pub begun : IsBegun b k b'
  pub task : IsTaskOf b' zero k t
  pub job : IsJob (job_of t)

-- the leaf is one of node k
pub record IsLeafFor (b : Book) (k : ℕ) (leaf : ClosedLeaf) : Type 0 where
  pub program : leaf.program ≡ b.program
  pub area : leaf.area ≡ (node_at b.nodes k).area

-- the halves and the licence are of node k, and the licence's cutoff is as low as the best value
pub record IsDivisionFor (b : Book) (k : ℕ) (h : Halved) (licence : NodeLicence) : Type 0 where
  pub program : licence.program ≡ b.program
  pub halves : h.area ≡ (node_at b.nodes k).area
  pub area : licence.area ≡ (node_at b.nodes k).area
  pub current : IsCurrent (best_value b) (cutoff_of licence.cutoff)

-- the search has ended so, since a limit is spent
pub record IsEnd (follower_nodes : ℕ) (b : Book) (l : Ledger) (end : Ended) : Type 0 where
  pub same : IsSameSearch b l.book
  pub workers : l.book.workers ≡ 1
  pub cause : IsCause l end
  pub within : EndsWithin b.program b.limit follower_nodes end

-- what became of a turn
abbrev pub IsTurn : ℕ → Book → Turn → Ledger → Type 0
IsTurn follower_nodes b Closed l = IsTurnOver b l.book
IsTurn follower_nodes b (Divided low high) l = IsTurnOver b l.book
IsTurn follower_nodes b (Ends end) l = IsEnd follower_nodes b l end
