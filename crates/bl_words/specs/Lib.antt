-- Trusted: which words the program takes.
pub mod Commands
pub mod Items
-- Internal: how they are read.
pub mod Steps
