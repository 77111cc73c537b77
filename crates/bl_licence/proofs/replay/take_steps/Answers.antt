use Rattle.std.proofs.Common.{rules, ◌≡◌, true, refl}
use Rattle.bl_licence.proofs.StepLaws.{steps_more}
use Rattle.bl_licence.proofs.replay.take_steps.Goals as goal

pub loop-k-preserved : goal.loop-k-preserved
loop-k-preserved c =
    let step = c.take_step.ensures.step.0 (search rules) in
    let taken = c.take_step.ensures.taken (search rules) in
    steps_more c.args.cutoff c.args.tableau.now c.loop-k.tableau c.take_step.new.tableau c.args.pivots.now c.loop-k.k _
    c.loop-k.invariant c.loop-k-test.true refl step taken
