use Rattle.std.proofs.Common.{◌≡◌, map, take}
use Rattle.std.specs.Prelude.{neg_ℤ}
use Rattle.bl_model.proofs.join.negated.Given as goal

abbrev pub invariant-loop-number : goal.invariant-loop-number
invariant-loop-number l = l.negated.items ≡ map neg_ℤ (take l.number-index l.coef)
