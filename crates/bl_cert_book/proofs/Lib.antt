pub mod Weights
pub mod EntryLemmas
pub mod CutLemmas
pub mod PlacedLeaves
pub mod TreeLemmas
pub mod AloneLemmas
pub mod PlacedTrees
pub mod BookLemmas
