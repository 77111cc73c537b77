use Rattle.std.proofs.Common.{not}
use Rattle.bl_mps_terms.specs.Rules.{is_zero}
use Rattle.bl_mps_model.specs.Model.{entry_at}
use Rattle.bl_mps_model.proofs.Tables.{filtered_more}
use Rattle.bl_mps_model.proofs.entries.raw_entries.Goals as goal

pub loop-row-preserved : goal.loop-row-preserved
loop-row-preserved c = record {
  exact = filtered_more (λ entry. not (is_zero entry.1))
      (entry_at c.args.numbers.now) c.loop-row.row _ _ c.loop-row.invariant.exact c.in_ok-add_entry.ensures.exact;
  limits = c.in_ok-add_entry.ensures.new;
}
