pub mod Orders
pub mod Multiples
pub mod Distances
pub mod Points
pub mod StepLaws
pub mod Limits
