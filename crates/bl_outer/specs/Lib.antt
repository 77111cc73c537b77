-- Trusted: what a caller has to believe of files, outputs and their counts.
pub mod Count
pub mod Files
pub mod Shelf
pub mod Sink
pub mod Text
-- Internal: how this crate's shelves and sinks are kept.
pub mod Codes
pub mod DirShelf
pub mod FaultPlan
pub mod MemFile
pub mod MemShelf
pub mod MemSink
