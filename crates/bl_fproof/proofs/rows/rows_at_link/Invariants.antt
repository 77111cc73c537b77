use Rattle.std.proofs.Common.{◌≡◌, ◌++◌}
use Rattle.std.specs.Prelude.{drop}
use Rattle.bl_terms.specs.FollowerProofs.{follower_rows}
use Rattle.bl_fproof.proofs.rows.rows_at_link.Given as goal

abbrev pub invariant-loop-row : goal.invariant-loop-row
invariant-loop-row l =
    l.rows.items ++ follower_rows l.model l.link (drop l.row-index l.model.rows)
    ≡ follower_rows l.model l.link l.model.rows
