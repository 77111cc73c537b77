pub mod CitedCuts
pub mod EntriesKept
pub mod LeafRules
