use Rattle.std.proofs.Common.{◌≡◌, map, not}
use Rattle.std.specs.List.{filter, range_with_len}
use Rattle.bl_mps_terms.specs.Rules.{is_zero}
use Rattle.bl_mps_model.specs.Model.{AreEntries, entry_at}
use Rattle.bl_mps_model.proofs.entries.raw_entries.Given as goal

abbrev pub invariant-loop-row : goal.invariant-loop-row
invariant-loop-row l = record {
  exact : l.entries.items ≡ filter (λ entry. not (is_zero entry.1)) (map (entry_at l.numbers) (range_with_len 0 l.row));
  limits : AreEntries l.row l.entries.items;
}
