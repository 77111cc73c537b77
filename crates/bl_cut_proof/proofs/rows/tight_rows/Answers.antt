use Rattle.bl_cut_terms.specs.NoGoods.{tight_row}
use Rattle.bl_cut_proof.specs.Proving.{local_rows}
use Rattle.bl_cut_proof.proofs.CodeLemmas.{map_more}
use Rattle.bl_cut_proof.proofs.rows.tight_rows.Goals as goal

pub loop-item-preserved : goal.loop-item-preserved
loop-item-preserved c =
    map_more (tight_row c.args.model.now c.args.area.now (local_rows c.args.earlier.now)) c.args.tight.now
    c.loop-item.rows.items c.push.new.self.items c.loop-item.item-index _ _ c.loop-item-test.true c.loop-item.invariant
    c.in_ok-row.ensures c.in_ok-push.ensures.items
