use Rattle.std.proofs.Common.{◌≡◌, ◌++◌, drop}
use Rattle.bl_elimination.specs.Elimination.{nonzeros}
use Rattle.bl_elimination.proofs.inverse.nonzeros.Given as goal

abbrev pub invariant-loop-t : goal.invariant-loop-t
invariant-loop-t l = nonzeros 0 l.numbers ≡ l.pairs.items ++ nonzeros l.t (drop l.t l.numbers)
