use Rattle.std.proofs.Common.{[]}
use Rattle.bl_elimination.specs.Elimination.{nonzeros}
use Rattle.bl_elimination.specs.Keeping.{unit_numbers}
use Rattle.bl_elimination.proofs.RowLists.{mapped_more}
use Rattle.bl_elimination.proofs.inverse.units.Goals as goal

pub loop-j-preserved : goal.loop-j-preserved
loop-j-preserved c =
    mapped_more (λ j. nonzeros 0 (unit_numbers c.args.columns.now c.args.numbers.now c.args.places j)) []
    c.loop-j.lists.items _ _ c.loop-j.j c.loop-j.invariant c.in_ok-push.ensures.items c.in_ok-unit.ensures
