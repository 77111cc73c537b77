use Rattle.std.proofs.Common.{◌≡◌, map}
use Rattle.std.specs.List.{range_with_len}
use Rattle.bl_elimination.specs.Elimination.{nonzeros}
use Rattle.bl_elimination.specs.Keeping.{unit_numbers}
use Rattle.bl_elimination.proofs.inverse.units.Given as goal

abbrev pub invariant-loop-j : goal.invariant-loop-j
invariant-loop-j l =
    l.lists.items ≡ map (λ j. nonzeros 0 (unit_numbers l.columns l.numbers l.places j)) (range_with_len 0 l.j)
