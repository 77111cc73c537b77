use Rattle.std.proofs.Common.{◌≡◌}
use Rattle.bl_certline.specs.LineValues.{each_of, item_of}
use Rattle.bl_certline.proofs.Lists.{with_front}
use Rattle.bl_certline.proofs.values.items_of.Given as goal

abbrev pub invariant-loop-word : goal.invariant-loop-word
invariant-loop-word l =
    with_front l.items.items (each_of item_of l.word-iterator) ≡ each_of item_of l.initial.word-iterator
