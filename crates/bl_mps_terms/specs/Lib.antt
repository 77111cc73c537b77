-- the words, parts and numbers of a text, the faults of its lines, and what it says (trusted)
pub mod Words
pub mod Parts
pub mod Rules
pub mod Lines
pub mod Faults
pub mod Meaning
