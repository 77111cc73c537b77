use Rattle.std.proofs.Common.{◌≡◌, take}
use Rattle.bl_cut_proof.proofs.same.same_items.Given as goal

abbrev pub invariant-loop-k : goal.invariant-loop-k
invariant-loop-k l = take l.k l.items ≡ take l.k l.others
