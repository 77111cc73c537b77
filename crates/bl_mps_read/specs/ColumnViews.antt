-- The columns that a reader keeps.
use Rattle.bl_mps_read.specs.declared.columns.Columns.{Columns}
use Rattle.bl_mps_read.specs.Columns.{ColumnList}

abbrev pub columns_view : Columns → ColumnList
columns_view columns =
    record {
      names = columns.names;
      numbers = columns.numbers.items;
      bounds = columns.bounds.items;
      marks =
          columns.marks.items;
      inside = columns.inside;
    }
