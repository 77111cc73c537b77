use Rattle.std.proofs.Common.{◌≡◌, ◌++◌, take}
use Rattle.bl_certline.specs.Spelled.{numbers_text}
use Rattle.bl_certline.proofs.put.put_numbers.Given as goal

abbrev pub invariant-loop-number : goal.invariant-loop-number
invariant-loop-number l = l.into.items ≡ l.initial.into.items ++ numbers_text (take l.number-index l.numbers)
