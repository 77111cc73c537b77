-- Trusted. What contracts see of a book: its ledger, and for how many further steps it has room.
use Rattle.std.specs.Prelude.{ℕ, zero, suc, ◌+◌, ◌-◌, ◌<◌, ◌≤◌, ◌≡◌, List, [], ◌∷◌, ◌++◌, length, Option, Some, None}
use Rattle.std.specs.Prelude.{if◌then◌else◌, nat_lt}
use Rattle.bl_limits.specs.declared.TheConstants.{MAX_NODES, MAX_WORKERS}
use Rattle.bl_terms.specs.Programs.{Program}
use Rattle.bl_model.specs.Boxes.{Halved}
use Rattle.bl_model.specs.View.{IsModel}
use Rattle.bl_leaf_terms.specs.Nodes.{NodeLicence}
use Rattle.bl_leaf_terms.specs.Leaves.{ClosedLeaf}
use Rattle.bl_tree.specs.declared.task.State.{State}
use Rattle.bl_tree.specs.declared.task.State.TheVariants as state
use Rattle.bl_book_terms.specs.Books.{Status, Ready, Claimed, Divided, Closed, Node, node_at, HasStatus, opening}
use Rattle.bl_book_terms.specs.Books.{Book, Event, after, Ledger, IsRun}

-- a book with its journal, and for how many further steps there is room
pub record KeptBook : Type 0 where
  pub ledger : Ledger
  pub spare : ℕ

-- a step is entered, which takes room
abbrev pub entered : KeptBook → Event → KeptBook
entered b e = record {
  ledger = record { book = after b.ledger.book e; journal = b.ledger.journal ++ e ∷ [] };
  spare = b.spare - 1;
}

-- the book after steps, in their order
abbrev pub after_all : Book → List Event → Book
after_all b [] = b
after_all b (e ∷ events) = after_all (after b e) events

-- the ledger of steps from the opening book of a program
abbrev pub ledger_of : Program → ℕ → ℕ → List Event → Ledger
ledger_of p workers limit events = record {
  book = record {
    program = p;
    workers = workers;
    limit = limit;
    nodes = (after_all (opening p workers limit) events).nodes;
    best = (after_all (opening p workers limit) events).best;
  };
  journal = events;
}

-- what the ledger of every book keeps: a model and numbers within the limits, and steps that were allowed where they
-- came
pub record IsKept (l : Ledger) : Type 0 where
  pub model : IsModel l.book.program
  pub workers_least : 1 ≤ l.book.workers
  pub workers_most : l.book.workers ≤ MAX_WORKERS
  pub limit_least : 1 ≤ l.book.limit
  pub limit_most : l.book.limit ≤ MAX_NODES
  pub run : IsRun l

-- how far a node of a status is
abbrev pub state_of : Status → State
state_of Ready = state.Ready
state_of (Claimed w u) = state.Claimed w u
state_of (Divided h licence low) = state.Split
state_of (Closed leaf) = state.Closed

-- how far node k is, none where it isn't there
abbrev pub state_at : Book → ℕ → Option State
state_at b k = if nat_lt k (length b.nodes) then Some (state_of (node_at b.nodes k).status) else None

-- how many nodes are ready or claimed
abbrev pub live_weight : Status → ℕ
live_weight Ready = 1
live_weight (Claimed w u) = 1
live_weight (Divided h licence low) = 0
live_weight (Closed leaf) = 0

abbrev pub live_count : List Node → ℕ
live_count [] = 0
live_count (n ∷ nodes) = live_weight n.status + live_count nodes

-- k is the first ready node from a number on
pub record IsNextReady (b : Book) (from k : ℕ) : Type 0 where
  pub least : from ≤ k
  pub ready : HasStatus b k Ready
  pub earlier : (j : ℕ) → from ≤ j → j < k → ¬ HasStatus b j Ready

-- node k is split into these halves, which are nodes of these numbers
pub record IsSplitInto (b : Book) (k : ℕ) (h : Halved) (low high : ℕ) : Type 0 where
  pub licence : NodeLicence
  pub split : HasStatus b k (Divided h licence low)
  pub next : high ≡ suc low

-- node k isn't split, or isn't there
abbrev pub IsUnsplit : Book → ℕ → Type 0
IsUnsplit b k = (h : Halved) (licence : NodeLicence) (low : ℕ) → ¬ HasStatus b k (Divided h licence low)

-- node k isn't closed, or isn't there
abbrev pub IsUnclosed : Book → ℕ → Type 0
IsUnclosed b k = (leaf : ClosedLeaf) → ¬ HasStatus b k (Closed leaf)
