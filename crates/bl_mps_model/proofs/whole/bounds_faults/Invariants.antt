use Rattle.std.proofs.Common.{◌≡◌, drop}
use Rattle.bl_mps_model.specs.Whole.{bounds_faults}
use Rattle.bl_mps_model.proofs.whole.bounds_faults.Given as goal

abbrev pub invariant-loop-column : goal.invariant-loop-column
invariant-loop-column l = bounds_faults l.default 0 l.bounds ≡ bounds_faults l.default l.column (drop l.column l.bounds)
