pub mod Entries
pub mod Rows
pub mod Shapes
pub mod Texts
pub mod Turns
pub mod Walks
