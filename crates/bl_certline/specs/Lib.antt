-- Fields, Lines and Laws are trusted: what the fields and the lines of a certificate are, and that each spelling is of
-- one line. The others are internal.
pub mod Fields
pub mod FieldValues
pub mod Forms
pub mod Laws
pub mod Lines
pub mod LineValues
pub mod Spelled
pub mod SplitWords
