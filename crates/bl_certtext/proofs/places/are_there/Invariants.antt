use Rattle.std.specs.List.{AllWithin}
use Rattle.bl_certtext.specs.Places.{IsThere}
use Rattle.bl_certtext.proofs.places.are_there.Given as goal

abbrev pub invariant-loop-item : goal.invariant-loop-item
invariant-loop-item l = AllWithin (IsThere l.model l.earlier) l.items 0 l.item-index
