use Rattle.std.proofs.Common.{◌≡◌, ◌++◌, take}
use Rattle.bl_certline.specs.Spelled.{sides_text}
use Rattle.bl_certline.proofs.put.put_sides.Given as goal

abbrev pub invariant-loop-side : goal.invariant-loop-side
invariant-loop-side l = l.into.items ≡ l.initial.into.items ++ sides_text (take l.side-index l.sides)
