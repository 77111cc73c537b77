-- Trusted. What a worker gets to work on.
use Rattle.std.specs.Prelude.{ℕ, ℤ, ◌≡◌, Option, option_map}
use Rattle.std.specs.Arc.{arc_value}
use Rattle.bl_tree.specs.declared.task.Task.{Task}
use Rattle.bl_book_terms.specs.Books.{node_at, Book}
use Rattle.bl_core.specs.Refusals.{IsClaimedBy}

-- the task is the worker's own node, with the book's program, the node's box and cuts, and the best incumbent of now
pub record IsTaskOf (b : Book) (w k : ℕ) (t : Task) : Type 0 where
  pub worker : t.worker ≡ w
  pub node : t.node ≡ k
  pub claimed : IsClaimedBy b w k
  pub program : arc_value t.model ≡ b.program
  pub area : arc_value t.area ≡ (node_at b.nodes k).area
  pub best : option_map arc_value t.best ≡ b.best
  pub cuts : t.cuts ≡ (node_at b.nodes k).cuts
