pub mod BegunForms
pub mod Elements
pub mod FirstLines
pub mod Readings
pub mod Walks
