use Rattle.std.proofs.Common.{◌≡◌}
use Rattle.std.specs.Prelude.{take}
use Rattle.bl_check_terms.specs.Values.{unit_of as unit_of_pairs}
use Rattle.bl_check_cuts.proofs.places.unit_of.Given as goal

abbrev pub invariant-loop-place : goal.invariant-loop-place
invariant-loop-place l = l.unit.items ≡ unit_of_pairs (take l.place-index l.pairs)
