-- Proving is trusted: when the parts of a new cut show it. So are `AreRows` of Rows, what is asked of rows that are
-- added up, and `IsSizeFault` of Faults, when steps can't be taken over. The rest of the two is internal.
pub mod Proving
pub mod Faults
pub mod Rows
