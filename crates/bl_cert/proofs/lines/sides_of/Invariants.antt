use Rattle.std.proofs.Common.{◌≡◌, ◌++◌, drop}
use Rattle.std.specs.List.{zip}
use Rattle.bl_cert.proofs.lines.sides_of.Given as goal

abbrev pub invariant-loop-k : goal.invariant-loop-k
invariant-loop-k l = l.sides.items ++ zip (drop l.k l.lo) (drop l.k l.hi) ≡ zip l.lo l.hi
