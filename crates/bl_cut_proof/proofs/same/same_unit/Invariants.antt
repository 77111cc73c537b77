use Rattle.std.proofs.Common.{◌≡◌, take}
use Rattle.bl_cut_proof.proofs.same.same_unit.Given as goal

abbrev pub invariant-loop-k : goal.invariant-loop-k
invariant-loop-k l = take l.k l.unit ≡ take l.k l.other
