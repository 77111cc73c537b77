-- Trusted: what a caller has to believe of the program's words, texts, endings, report and promise.
pub mod Endings
pub mod Promise
pub mod Report
pub mod Solve
pub mod Texts
pub mod Words
-- Internal: what private calls promise one another.
pub mod Steps
