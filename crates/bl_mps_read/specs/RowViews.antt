-- The rows that a reader keeps.
use Rattle.bl_mps_read.specs.declared.rows.Rows.{Rows}
use Rattle.bl_mps_read.specs.Rows.{RowList}

abbrev pub rows_view : Rows → RowList
rows_view rows = record {
  names = rows.names;
  slots = rows.slots.items;
  objective = rows.objective;
  bounded =
      rows.bounded.items;
}
