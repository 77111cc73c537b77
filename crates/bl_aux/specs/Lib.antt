-- Trusted: what a text says, and which rule it breaks first.
pub mod Lines
pub mod Given
pub mod Texts
pub mod Canonical
pub mod Laws
-- Internal: what the reader computes with.
pub mod Drafts
