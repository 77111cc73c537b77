-- what is computed of the lines that were read (internal)
pub mod Whole
pub mod Model
