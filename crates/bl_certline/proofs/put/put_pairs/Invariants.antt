use Rattle.std.proofs.Common.{◌≡◌, ◌++◌, take}
use Rattle.bl_certline.specs.Spelled.{pairs_text}
use Rattle.bl_certline.proofs.put.put_pairs.Given as goal

abbrev pub invariant-loop-pair : goal.invariant-loop-pair
invariant-loop-pair l = l.into.items ≡ l.initial.into.items ++ pairs_text (take l.pair-index l.pairs)
