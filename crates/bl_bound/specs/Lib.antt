-- Plain is trusted: what the contract of a plain proof says. Sums is internal.
pub mod Plain
pub mod Sums
