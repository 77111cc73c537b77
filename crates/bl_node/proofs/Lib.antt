pub mod Steps
pub mod Points
pub mod Falls
pub mod Failures
pub mod Closings
pub mod Divisions
pub mod MadeCuts
