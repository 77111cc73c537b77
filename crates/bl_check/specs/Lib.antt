-- Checks is trusted: what a checker answers. Keeping is internal.
pub mod Checks
pub mod Keeping
