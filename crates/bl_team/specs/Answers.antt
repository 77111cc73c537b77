-- Trusted. Which outcome of a search is one of a program and of the limits that were set, and that ample limits are
-- never spent.
use Rattle.std.specs.Prelude.{◌≡◌, ◌+◌, ◌*◌, ◌<◌, ◌≤◌, ℕ}
use Rattle.bl_limits.specs.declared.TheConstants.{MAX_NODES, MAX_FOLLOWER_NODES, MAX_WORKERS}
use Rattle.bl_terms.specs.Programs.{Program, root}
use Rattle.bl_terms.specs.Trees.{point_count}
use Rattle.bl_terms.specs.FollowerProofs.{follower_box}
use Rattle.bl_core.specs.declared.outcome.Ended.{Ended}
use Rattle.bl_core.specs.declared.outcome.Ended.TheVariants.{Done, Nodes, Follower}
use Rattle.bl_core.specs.Outcomes.{Ending}
use Rattle.bl_team.specs.declared.settings.Settings.{Settings}

-- each number is within its limit
pub record AreSettings (s : Settings) : Type 0 where
  pub workers_least : 1 ≤ s.workers
  pub workers_most : s.workers ≤ MAX_WORKERS
  pub nodes_least : 1 ≤ s.nodes
  pub nodes_most : s.nodes ≤ MAX_NODES
  pub follower_least : 1 ≤ s.follower_nodes
  pub follower_most : s.follower_nodes ≤ MAX_FOLLOWER_NODES

-- a limit that was spent is the one that was set, and is below twice the points of its box less one
abbrev pub EndsWithin : Program → ℕ → ℕ → Ended → Type 0
EndsWithin p nodes follower_nodes Done = Unit {0}
EndsWithin p nodes follower_nodes (Nodes node why) = nodes + 1 < 2 * point_count (root p)
EndsWithin p nodes follower_nodes (Follower spent) =
    (spent.budget ≡ follower_nodes) × (follower_nodes + 1 < 2 * point_count (follower_box p))

-- the outcome is of the program, of so many workers, and of the limits that were set
pub record IsOutcomeFor (p : Program) (n : ℕ) (s : Settings) (o : Ending) : Type 0 where
  pub program : o.book.ledger.book.program ≡ p
  pub workers : o.book.ledger.book.workers ≡ n
  pub limit : o.book.ledger.book.limit ≡ s.nodes
  pub end : EndsWithin p s.nodes s.follower_nodes o.end
