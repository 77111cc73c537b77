use Rattle.std.proofs.Common.{◌≡◌, map, take, vec_len}
use Rattle.std.specs.List.{All}
use Rattle.bl_raw.specs.Raw.{IsRow}
use Rattle.bl_mps_model.specs.Model.{raw_row}
use Rattle.bl_mps_model.proofs.rows.raw_rows.Given as goal

abbrev pub invariant-loop-row : goal.invariant-loop-row
invariant-loop-row l = record {
  exact : l.raw.items ≡ map (raw_row l.rows.names l.right_sides l.ranges) (take l.row-index l.rows.bounded.items);
  count : vec_len l.raw ≡ l.row-index;
  limits : All IsRow l.raw.items;
}
