use Rattle.std.proofs.Common.{◌≡◌}
use Rattle.bl_terms.specs.Programs.{is_linking, places_where}
use Rattle.bl_model.proofs.join.link_places.Given as goal

-- the linking columns below `column`
abbrev pub invariant-loop-column : goal.invariant-loop-column
invariant-loop-column l = l.places.items ≡ places_where (is_linking l.follower l.rows) l.column
