use Rattle.bl_licence.proofs.Multiples.{WholeSoFar}
use Rattle.bl_licence.proofs.common.whole_multiples.Given as goal

abbrev pub invariant-loop-k : goal.invariant-loop-k
invariant-loop-k l = WholeSoFar l.fractions l.common l.numbers.items l.k
