use Rattle.std.proofs.Common.{◌≡◌}
use Rattle.std.specs.Prelude.{take}
use Rattle.bl_terms.specs.Points.{values_at}
use Rattle.bl_check_rules.proofs.places.values_at.Given as goal

abbrev pub invariant-loop-place : goal.invariant-loop-place
invariant-loop-place l = l.picked.items ≡ values_at l.values (take l.place-index l.places)
