-- Internal: the rules of a leaf, said of what a checker keeps.
pub mod Kept
