-- Judges, Sites and Walked are trusted: what a judge of lines is asked and answers, and what the way through a text
-- tells. Walks is internal.
pub mod Judges
pub mod Sites
pub mod Walked
pub mod Walks
