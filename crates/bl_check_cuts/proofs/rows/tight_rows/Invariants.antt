use Rattle.std.proofs.Common.{◌≡◌, take}
use Rattle.std.specs.Prelude.{All, map}
use Rattle.bl_cut_terms.specs.NoGoods.{IsThere as IsThereFor, tight_rows as rows_of}
use Rattle.bl_check_terms.specs.Values.{tight_of}
use Rattle.bl_check_cuts.proofs.rows.tight_rows.Given as goal

abbrev pub invariant-loop-item : goal.invariant-loop-item
invariant-loop-item l = record {
  rows : l.rows.items ≡ rows_of l.model l.area l.earlier (map tight_of (take l.item-index l.items));
  there : All (IsThereFor l.model l.area l.earlier) (map tight_of (take l.item-index l.items));
}
