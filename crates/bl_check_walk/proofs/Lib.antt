pub mod FirstLines
pub mod ReadLines
pub mod Verdicts
