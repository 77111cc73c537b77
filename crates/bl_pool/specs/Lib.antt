-- Pools, Puts and Laws are trusted: what a pool is, what a put does to it, and what any puts leave in it. Links is
-- internal.
pub mod Pools
pub mod Puts
pub mod Laws
pub mod Links
