use Rattle.std.proofs.lemmas.Option.{MatchOption-at_none}
use Rattle.bl_check_cuts.proofs.RowLemmas.{not_there}
use Rattle.bl_check_cuts.proofs.rows.tight_rows.Goals as goal

pub returns-in_default : goal.returns-in_default
returns-in_default c =
    not_there c.args.model.now c.args.area.now c.args.earlier.now c.args.items.now c.loop-item.item-index _
    c.loop-item-test.true (MatchOption-at_none _ _ c.in_default.is c.in_ok-row.ensures)
