pub mod AuxLines
pub mod Parts
pub mod Shown
