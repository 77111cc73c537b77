use Rattle.std.specs.List.{AllWithin}
use Rattle.bl_certtext.specs.Places.{IsPlace}
use Rattle.bl_certtext.proofs.places.are_places.Given as goal

abbrev pub invariant-loop-number : goal.invariant-loop-number
invariant-loop-number l = AllWithin (IsPlace l.count) l.numbers 0 l.number-index
