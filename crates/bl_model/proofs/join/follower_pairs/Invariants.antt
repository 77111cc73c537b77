use Rattle.std.proofs.Common.{◌≡◌, ◌++◌, map, drop}
use Rattle.std.specs.Prelude.{◌*ℤ◌}
use Rattle.std.specs.List.{zip}
use Rattle.bl_model.proofs.join.follower_pairs.Given as goal

-- the pairs so far and those of the columns that are left are all pairs
abbrev pub invariant-loop-at : goal.invariant-loop-at
invariant-loop-at l =
    l.pairs.items ++ zip (drop l.at l.columns) (map (λ cost. cost *ℤ l.aux.sense) (drop l.at l.costs))
    ≡ zip l.columns (map (λ cost. cost *ℤ l.aux.sense) l.costs)
