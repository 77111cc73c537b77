-- What the contracts of fractions cite.
pub mod Narrowed
pub mod Laws
