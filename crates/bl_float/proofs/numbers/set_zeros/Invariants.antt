use Rattle.std.proofs.Common.{◌≡◌, vec_len}
use Rattle.bl_float.proofs.numbers.set_zeros.Given as goal

abbrev pub invariant-loop : goal.invariant-loop
invariant-loop l = vec_len l.list ≡ l.counter
