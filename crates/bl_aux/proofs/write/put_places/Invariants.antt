use Rattle.std.proofs.Common.{◌≡◌, ◌++◌, take, map, pos}
use Rattle.bl_aux.specs.Canonical.{number_lines}
use Rattle.bl_aux.proofs.write.put_places.Given as goal

abbrev pub invariant-loop-place : goal.invariant-loop-place
invariant-loop-place l =
    l.text.items ≡ l.initial.text.items ++ number_lines l.key (map pos (take l.place-index l.places))
