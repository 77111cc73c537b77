use Rattle.std.proofs.Common.{◌≡◌, take}
use Rattle.bl_cut_terms.specs.NoGoods.{tight_rows}
use Rattle.bl_cut_proof.specs.Proving.{local_rows}
use Rattle.bl_cut_proof.proofs.rows.tight_rows.Given as goal

abbrev pub invariant-loop-item : goal.invariant-loop-item
invariant-loop-item l = l.rows.items ≡ take l.item-index (tight_rows l.model l.area (local_rows l.earlier) l.tight)
