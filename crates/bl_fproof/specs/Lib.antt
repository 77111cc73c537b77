-- Steps, Entries and Refusals are trusted: what a follower proof says, what it means that it is admitted, and where it
-- fails. Stacks and Points are internal.
pub mod Steps
pub mod Entries
pub mod Refusals
pub mod Stacks
pub mod Points
