use Rattle.std.proofs.Common.{◌≡◌, take}
use Rattle.std.specs.Str.Parse.{digits_value_after}
use Rattle.bl_num.specs.Capped.{capped}
use Rattle.bl_num.proofs.magnitude.number_after.Given as goal

abbrev pub invariant-loop-digit : goal.invariant-loop-digit
invariant-loop-digit l = l.number ≡ capped (digits_value_after 10 l.front (take l.digit-index l.digits))
