pub mod Cuts
pub mod Digits
pub mod LineLaws
pub mod FieldLaws
pub mod Plain
