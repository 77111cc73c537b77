pub mod Certificates
pub mod CitedPairs
pub mod Entering
pub mod Placed
pub mod Preorder
pub mod Texts
pub mod Trees
