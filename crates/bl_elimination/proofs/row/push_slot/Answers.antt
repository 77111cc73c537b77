use Rattle.std.proofs.Common.{pos, nat_eq, to_z, of_z, ap, ◌∙◌}
use Rattle.std.specs.Prelude.{if◌then◌else◌}
use Rattle.std.specs.Int.{w64}
use Rattle.bl_simplex.specs.Fractions.{whole_fraction}
use Rattle.bl_elimination.proofs.RowLists.{mapped_more, slot_back}
use Rattle.bl_elimination.proofs.row.push_slot.Goals as goal

pub loop-t-preserved : goal.loop-t-preserved
loop-t-preserved c =
    let t = c.loop-t.t in
    record {
      items = mapped_more (λ t. whole_fraction (if nat_eq t c.args.slot then pos 1 else pos 0)) c.args.numbers.now.items
          c.loop-t.numbers.items _ _ t c.loop-t.invariant.items c.in_ok-push_whole.ensures.ok
          (ap whole_fraction (ap (λ z. to_z w64 (of_z w64 z)) c.slot_number.ensures
          ∙ slot_back (nat_eq t c.args.slot)));
      numbers = c.in_ok-push_whole.ensures.lowest_terms;
    }
