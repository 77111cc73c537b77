-- Trusted are Shows, Licences and Closing: why a point, a licence or a leaf is refused, and what a leaf stands for. So
-- are Values, the value that an entry gives a box, and Laws, proofs with and without cuts. Bounds is internal.
pub mod Shows
pub mod Values
pub mod Licences
pub mod Closing
pub mod Laws
pub mod Bounds
