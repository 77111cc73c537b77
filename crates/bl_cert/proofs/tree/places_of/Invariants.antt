use Rattle.std.proofs.Common.{◌≡◌, take, map, pos}
use Rattle.bl_cert.proofs.tree.places_of.Given as goal

abbrev pub invariant-loop-pair : goal.invariant-loop-pair
invariant-loop-pair l = l.places.items ≡ map pos (map (λ x. x.0) (take l.pair-index l.cited))
