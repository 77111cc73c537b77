-- What the contracts of the tableau cite.
pub mod Cells
pub mod Runs
pub mod Opening
pub mod Solutions
