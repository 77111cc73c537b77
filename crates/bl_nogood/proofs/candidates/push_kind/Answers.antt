use Rattle.bl_elimination.proofs.RowLists.{mapped_more}
use Rattle.bl_nogood.specs.Choosing.{placed}
use Rattle.bl_nogood.proofs.candidates.push_kind.Goals as goal

pub loop-place-preserved : goal.loop-place-preserved
loop-place-preserved c =
    mapped_more (placed c.args.kind) c.args.items.now.items c.loop-place.items.items _ _ c.loop-place.place
    c.loop-place.invariant c.in_ok-push.ensures.items c.at_place.ensures
