use Rattle.std.proofs.Common.{◌≡◌, ◌++◌, drop}
use Rattle.bl_check_terms.specs.Values.{pairs_from}
use Rattle.bl_cert.proofs.lines.pairs_of.Given as goal

abbrev pub invariant-loop-k : goal.invariant-loop-k
invariant-loop-k l = l.pairs.items ++ pairs_from l.k (drop l.k l.numbers) ≡ pairs_from 0 l.numbers
