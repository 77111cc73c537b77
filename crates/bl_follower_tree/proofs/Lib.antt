pub mod Openings
pub mod Licences
pub mod Cutoffs
pub mod Growth
