-- Candidates and Making are trusted: the rows that hold with equality at a point, and the cut that the elimination
-- makes of them. Choosing is internal.
pub mod Candidates
pub mod Choosing
pub mod Making
