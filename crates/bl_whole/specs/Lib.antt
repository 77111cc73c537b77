pub mod Sums
pub mod Within
pub mod Identities
pub mod Laws
