-- Answers is trusted: which outcome is one of a program and of the limits that were set. Turns is internal.
pub mod Answers
pub mod Turns
