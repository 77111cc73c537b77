use Rattle.std.proofs.Common.{◌≡◌, ◌*◌, ◌^◌}
use Rattle.bl_num.specs.Capped.{capped}
use Rattle.bl_num.proofs.magnitude.raised.Given as goal

abbrev pub invariant-loop-step : goal.invariant-loop-step
invariant-loop-step l = l.raised ≡ capped (l.number * 10 ^ l._step)
