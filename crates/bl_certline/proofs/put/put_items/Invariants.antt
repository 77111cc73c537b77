use Rattle.std.proofs.Common.{◌≡◌, ◌++◌, take}
use Rattle.bl_certline.specs.Spelled.{items_text}
use Rattle.bl_certline.proofs.put.put_items.Given as goal

abbrev pub invariant-loop-item : goal.invariant-loop-item
invariant-loop-item l = l.into.items ≡ l.initial.into.items ++ items_text (take l.item-index l.items)
