use Rattle.std.proofs.Common.{◌≡◌, ◌++◌, map}
use Rattle.std.specs.List.{range_with_len}
use Rattle.bl_nogood.specs.Choosing.{placed}
use Rattle.bl_nogood.proofs.candidates.push_kind.Given as goal

abbrev pub invariant-loop-place : goal.invariant-loop-place
invariant-loop-place l = l.items.items ≡ l.fn.items.items ++ map (placed l.kind) (range_with_len 0 l.place)
