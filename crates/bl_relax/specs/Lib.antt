-- Relaxed is trusted: what each answer means. The others are internal.
pub mod Relaxed
pub mod Runs
pub mod Choices
pub mod Advances
