use Rattle.std.proofs.Common.{length, ◌-◌}
use Rattle.std.specs.Prelude.{reverse}
use Rattle.bl_follower.specs.Search.{IsUnderWay}
use Rattle.bl_follower.proofs.search.search.Given as goal

abbrev pub invariant-boxes : goal.invariant-boxes
invariant-boxes l = IsUnderWay l.rows l.budget l.best l.tree (reverse l.tree.stack)

abbrev pub decreases-boxes : goal.decreases-boxes
decreases-boxes l = l.budget - length l.tree.nodes
