use Rattle.std.proofs.Common.{◌≡◌, length}
use Rattle.bl_certline.specs.LineValues.{sides_of}
use Rattle.bl_certline.proofs.Lists.{with_front}
use Rattle.bl_certline.proofs.values.sides_of.Given as goal

abbrev pub invariant-loop-lo : goal.invariant-loop-lo
invariant-loop-lo l = with_front l.sides.items (sides_of l.words) ≡ sides_of l.initial.words

abbrev pub decreases-loop-lo : goal.decreases-loop-lo
decreases-loop-lo l = length l.words
