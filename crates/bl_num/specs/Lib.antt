-- Trusted: what is read of a text, and the grammar that it is tied to.
pub mod Numbers
pub mod Grammar
-- Internal: what the reader computes with.
pub mod Capped
