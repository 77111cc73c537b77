-- The fields that the parts of a line are.
use Rattle.std.specs.Prelude.{◌∷◌, List, map}
use Rattle.std.specs.Option.{option_to_list, option_map}
use Rattle.bl_mps_read.specs.declared.fields.Pair.{Pair}
use Rattle.bl_mps_read.specs.declared.fields.Pairs.{Pairs}
use Rattle.bl_mps_read.specs.declared.fields.Entry.{Entry}
use Rattle.bl_mps_read.specs.declared.fields.BoundLine.{BoundLine}
use Rattle.bl_mps_terms.specs.Words.{Bytes}
use Rattle.bl_mps_terms.specs.Lines.{BoundLine as BoundFields}
use Rattle.bl_mps_read.specs.Fields.{EntryFields}

abbrev pub pair_view : Pair → Bytes × Bytes
pair_view pair = (pair.first.now, pair.second.now)

abbrev pub pairs_view : Pairs → List (Bytes × Bytes)
pairs_view pairs = pair_view pairs.pair ∷ map pair_view (option_to_list pairs.more)

abbrev pub entry_view : Entry → EntryFields
entry_view entry = record { name = entry.name.now; pairs = pairs_view entry.pairs }

abbrev pub bound_view : BoundLine → BoundFields
bound_view line = record {
  kind = line.kind;
  column = line.column.now;
  number =
      option_map (λ number. number.now) line.number;
}
