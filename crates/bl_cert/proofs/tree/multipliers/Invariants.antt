use Rattle.std.proofs.Common.{◌≡◌, ◌++◌, take, map}
use Rattle.bl_cert.proofs.tree.multipliers.Given as goal

abbrev pub invariant-loop-pair : goal.invariant-loop-pair
invariant-loop-pair l = l.all.items ≡ take l.rows l.proof.mult ++ map (λ x. x.1) (take l.pair-index l.cited)
