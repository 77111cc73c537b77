use Rattle.std.proofs.Common.{◌≡◌, ◌++◌, map, drop}
use Rattle.std.specs.Prelude.{◌*ℤ◌}
use Rattle.bl_model.specs.Build.{leader_sense_of}
use Rattle.bl_model.proofs.join.costs.Given as goal

-- the costs so far and those of the columns that are left are all costs
abbrev pub invariant-loop-column : goal.invariant-loop-column
invariant-loop-column l =
    l.costs.items ++ map (λ c. c.cost *ℤ leader_sense_of l.maximise) (drop l.column-index l.columns)
    ≡ map (λ c. c.cost *ℤ leader_sense_of l.maximise) l.columns
