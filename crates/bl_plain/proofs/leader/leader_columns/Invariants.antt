use Rattle.bl_terms.specs.Programs.{columns}
use Rattle.bl_plain.proofs.LeaderLemmas.{IsSplit}
use Rattle.bl_plain.proofs.leader.leader_columns.Given as goal

abbrev pub invariant-loop-column : goal.invariant-loop-column
invariant-loop-column l = IsSplit (columns l.model) l.column-counter l.columns.items l.follower
