-- Licences and Shapes are trusted: when the nodes of a tree and their cutoffs have the licences that they claim, and
-- when a tree and a proof have the same splits. The others are internal.
pub mod Licences
pub mod Shapes
pub mod Openings
pub mod Growth
