-- Internal. The widest column so far.
pub mod Widest
