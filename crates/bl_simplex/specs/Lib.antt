-- What a reader of the solver's contracts has to believe about fractions, dictionaries and licences. All of it is
-- trusted.
pub mod Gcd
pub mod Fractions
pub mod Rationals
pub mod Dictionaries
pub mod Pivots
pub mod LegalPivots
pub mod Closing
pub mod Licences
pub mod Facts
