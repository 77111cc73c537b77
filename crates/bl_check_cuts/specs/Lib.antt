-- Internal. What a cut adds up.
pub mod Sums
