use Rattle.std.proofs.Common.{◌≡◌, take}
use Rattle.bl_check_terms.specs.Values.{unit_pairs}
use Rattle.bl_cert.proofs.lines.unit_pairs.Given as goal

abbrev pub invariant-loop-place : goal.invariant-loop-place
invariant-loop-place l = l.pairs.items ≡ unit_pairs (take l.place-index l.unit)
