pub mod Chosen
pub mod KeptLemmas
pub mod Taken
