pub mod EntryRules
pub mod Insertions
pub mod ListedNumbers
