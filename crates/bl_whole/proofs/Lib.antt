pub mod Products
pub mod SumLemmas
pub mod IdentityLemmas
pub mod WithinLemmas
