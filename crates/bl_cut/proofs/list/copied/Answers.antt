use Rattle.bl_cut.proofs.CutLemmas.{shared_more}
use Rattle.bl_cut.proofs.list.copied.Goals as goal

pub loop-cut-preserved : goal.loop-cut-preserved
loop-cut-preserved c =
    shared_more c.loop-cut.copies.items c.args.cuts.now c.push.new.self.items c.loop-cut.cut-index c.cut-item.result
    c.in_ok-copy.copy c.loop-cut-test.true c.loop-cut.invariant c.cut-item.is
    c.in_ok-copy.ensures.cases c.in_ok-push.ensures.items
