-- The state that a reader keeps.
use Rattle.bl_mps_read.specs.declared.reader.Reader.{Reader}
use Rattle.bl_mps_read.specs.ColumnViews.{columns_view}
use Rattle.bl_mps_read.specs.Reader.{State}
use Rattle.bl_mps_read.specs.RowViews.{rows_view}

abbrev pub reader_view : Reader → State
reader_view reader = record {
  sections = reader.sections;
  sense = reader.sense;
  rows = rows_view reader.rows;
  columns = columns_view reader.columns;
  right_sides = reader.right_sides;
  ranges = reader.ranges;
}
