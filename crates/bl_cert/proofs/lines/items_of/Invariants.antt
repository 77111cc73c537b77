use Rattle.std.proofs.Common.{◌≡◌, take, map}
use Rattle.bl_check_terms.specs.Values.{item_of}
use Rattle.bl_cert.proofs.lines.items_of.Given as goal

abbrev pub invariant-loop-item : goal.invariant-loop-item
invariant-loop-item l = l.items.items ≡ map item_of (take l.item-index l.tight)
