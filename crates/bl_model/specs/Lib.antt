pub mod Boxes
pub mod Build
pub mod Points
pub mod Same
pub mod View
