-- what the reader computes, proved equal to what the text says (internal)
pub mod Stops
pub mod Fields
pub mod Views
pub mod Numbers
pub mod Sections
pub mod Rows
pub mod RowViews
pub mod Bounds
pub mod Columns
pub mod ColumnViews
pub mod Sides
pub mod Errors
pub mod Reader
pub mod ReaderViews
