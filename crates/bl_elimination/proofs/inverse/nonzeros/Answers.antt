use Rattle.std.proofs.Common.{refl}
use Rattle.bl_elimination.proofs.Units.{nonzeros_more}
use Rattle.bl_elimination.proofs.inverse.nonzeros.Goals as goal

pub loop-t-preserved : goal.loop-t-preserved
loop-t-preserved c =
    nonzeros_more c.args.numbers.now c.loop-t.pairs.items _ c.loop-t.t _ c.loop-t-test.true c.loop-t.invariant
    c.in_ok-push_nonzero.ensures refl
