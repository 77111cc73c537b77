-- What the contracts of the elimination cite.
pub mod Elimination
pub mod Inverses
pub mod Keeping
