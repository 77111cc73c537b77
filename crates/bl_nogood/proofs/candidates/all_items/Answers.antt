use Rattle.std.proofs.Common.{ap, length}
use Rattle.bl_nogood.proofs.Chosen.{all_items_are}
use Rattle.bl_nogood.proofs.candidates.all_items.Goals as goal

pub returns : goal.returns
returns c =
    all_items_are c.args.model.now c.args.earlier.now _ _ _ _ _ _ _ _ _ c.new-items.ensures.items
    c.in_ok-push_kind.ensures c.in_ok-push_kind-2.ensures c.in_ok-push_kind-3.ensures c.in_ok-push_kind-4.ensures
    (ap length c.rows.ensures.rows) (ap length c.lo.ensures.lo) (ap length c.lo.ensures.lo) c.count.ensures.value
