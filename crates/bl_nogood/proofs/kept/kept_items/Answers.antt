use Rattle.std.proofs.Common.{refl}
use Rattle.bl_cut_terms.specs.Adopting.{item_at}
use Rattle.bl_cut_proof.proofs.CodeLemmas.{map_more}
use Rattle.bl_nogood.proofs.kept.kept_items.Goals as goal

pub loop-number-preserved : goal.loop-number-preserved
loop-number-preserved c =
    map_more (λ i. item_at c.args.candidates.now i) c.args.kept.now c.loop-number.items.items c.push.new.self.items
    c.loop-number.number-index 0 _ c.loop-number-test.true c.loop-number.invariant refl c.in_ok-push.ensures.items
